pub mod Collecting
pub mod Ending
pub mod Frames
pub mod GeneratedRows
pub mod Generating
pub mod Leading
pub mod Passing
pub mod Texts

pub mod Generated
pub mod Kinds
pub mod Passing
pub mod Reading
pub mod Steps

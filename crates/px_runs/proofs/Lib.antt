pub mod Inputs
pub mod Choosing
pub mod Holding
pub mod Opened
pub mod Writing
pub mod Merging
pub mod Moving

pub mod Block
pub mod Disk
pub mod Names

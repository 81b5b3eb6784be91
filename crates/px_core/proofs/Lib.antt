pub mod Bits
pub mod Pages
pub mod Partition
pub mod Ranked
pub mod Telling
pub mod Keeping
pub mod Steps

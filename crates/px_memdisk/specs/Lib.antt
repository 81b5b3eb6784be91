pub mod Files
pub mod Memory
pub mod Tally
pub mod Wild

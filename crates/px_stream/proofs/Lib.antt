pub mod Counting
pub mod Kept
pub mod Merging
pub mod Order
pub mod Places
pub mod Reading
pub mod Writing

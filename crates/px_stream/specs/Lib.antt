pub mod Views
pub mod Counts
pub mod Stream
pub mod Merged

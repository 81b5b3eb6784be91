pub mod Ended
pub mod Statuses

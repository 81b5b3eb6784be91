pub mod Apart
pub mod Hold
pub mod Joining

pub mod Counting
pub mod Steps
pub mod Effecting
pub mod Taking
pub mod Merging
pub mod Apart
pub mod Beginning

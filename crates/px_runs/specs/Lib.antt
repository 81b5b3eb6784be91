pub mod Order
pub mod Inputs
pub mod Runs

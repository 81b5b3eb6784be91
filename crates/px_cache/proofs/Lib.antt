pub mod Lists
pub mod Shows
pub mod Pins
pub mod Calls

pub mod Dueing
pub mod Taking

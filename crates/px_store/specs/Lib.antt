pub mod Desks
pub mod Lists
pub mod Joins

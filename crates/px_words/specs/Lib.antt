pub mod Options
pub mod Screen
pub mod Words

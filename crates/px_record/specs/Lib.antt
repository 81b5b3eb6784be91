pub mod Body
pub mod Held
pub mod Headers

pub mod Due
pub mod Outer

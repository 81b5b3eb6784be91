pub mod Bytes
pub mod Held
pub mod HeldBodies
pub mod Laws

pub mod Between
pub mod Parting
pub mod Asked
pub mod Sending
pub mod ByTurns
pub mod Mixing

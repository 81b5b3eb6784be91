pub mod Places
pub mod Spilling
pub mod Streaming
pub mod Holding
pub mod Fitting
pub mod Sealing
pub mod Giving

pub mod Turns
pub mod Effects
pub mod Applying
pub mod Deciding

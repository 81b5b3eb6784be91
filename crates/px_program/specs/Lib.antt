pub mod Calls
pub mod Numbers
pub mod Groups
pub mod Regrouping
pub mod Phase
pub mod Posted
pub mod Saturating

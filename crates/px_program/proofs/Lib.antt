pub mod Gathering
pub mod NumberRules
pub mod Phases
pub mod Printing
pub mod SaturatingSums
pub mod Stopping
pub mod Weaving

pub mod Items
pub mod Numbers
pub mod Opening
pub mod Parsing
pub mod Rules
pub mod Turns
pub mod Walking

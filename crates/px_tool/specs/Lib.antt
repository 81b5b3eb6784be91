pub mod Clauses
pub mod Due
pub mod Endings

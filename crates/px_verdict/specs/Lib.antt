pub mod Longest
pub mod Verdict

pub mod Slots
pub mod BankLaws
pub mod Tables
pub mod Places

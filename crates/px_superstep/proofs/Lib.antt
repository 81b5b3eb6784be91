mod Parting
mod PartRows
mod Composing
mod Sums
mod Limits
mod Exceeding
mod Slices
mod Standing
mod Phases
mod Ending
mod Staying
mod Bits
mod Nexting
mod Composed
mod Delivering
pub mod Gathering
mod SettlingSteps
pub mod Banks
pub mod Computing
pub mod Lending
pub mod Rows
pub mod Runs
pub mod Stopping
pub mod Tooling
pub mod SettleTooling
pub mod Texts
pub mod LoadTooling
pub mod Tallying
pub mod Places
mod Stepping
mod Loaded
mod JobStanding
mod Written
pub mod Reaching

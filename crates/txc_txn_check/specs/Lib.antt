pub mod Steps
pub mod Limits
pub mod Walk
pub mod Tally
pub mod Fault

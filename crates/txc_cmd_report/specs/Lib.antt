pub mod Outcome
pub mod Text
pub mod Line

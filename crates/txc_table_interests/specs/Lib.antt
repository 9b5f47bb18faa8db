pub mod Interests
pub mod Missed

pub mod Seated
pub mod Tally

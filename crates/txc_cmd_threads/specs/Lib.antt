pub mod Closed
pub mod Serves
pub mod Stuck
pub mod Pool
pub mod Ran

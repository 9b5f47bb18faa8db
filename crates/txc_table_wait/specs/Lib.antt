pub mod Waiters
pub mod Change
pub mod Size

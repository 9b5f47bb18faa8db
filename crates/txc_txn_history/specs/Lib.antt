pub mod Commits
pub mod Events
pub mod OneOrder
pub mod Placed
pub mod Histories
pub mod Seats

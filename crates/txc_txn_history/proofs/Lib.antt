pub mod Ordering
pub mod Locality
pub mod Sorting
pub mod Turns
pub mod Histories
pub mod Placing
pub mod Seats

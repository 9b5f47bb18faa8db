pub mod Moves
pub mod Ends
pub mod Hash
pub mod Search
pub mod Followed
pub mod Text

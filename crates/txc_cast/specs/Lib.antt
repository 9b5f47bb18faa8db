pub mod Fault
pub mod Reader
pub mod Broadcast
pub mod Standing
pub mod Kept
pub mod Sights

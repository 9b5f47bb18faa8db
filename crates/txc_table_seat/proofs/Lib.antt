pub mod Counting
pub mod Recording
pub mod Sends

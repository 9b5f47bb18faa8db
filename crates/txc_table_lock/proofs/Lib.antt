pub mod Rules
pub mod Sends

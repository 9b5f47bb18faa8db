pub mod Turns
pub mod Turning
pub mod Left
pub mod Accounts

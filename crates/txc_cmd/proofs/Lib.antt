pub mod SeatOrder
pub mod InOrder
pub mod Lawful
pub mod Accounts
pub mod Orders
mod Worked

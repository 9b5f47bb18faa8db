pub mod Kinds
pub mod Ranks
pub mod ReceiptKeys
pub mod Fault
pub mod Refused
pub mod Conditions

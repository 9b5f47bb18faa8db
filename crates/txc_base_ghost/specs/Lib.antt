pub mod ListAuth
pub mod Last

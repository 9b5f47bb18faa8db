pub mod Tree
pub mod Fault
pub mod Script
pub mod Operations
pub mod Steps
pub mod Reading

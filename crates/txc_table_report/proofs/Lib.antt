pub mod Gathering
pub mod Weighing
pub mod Standing
pub mod Leaving

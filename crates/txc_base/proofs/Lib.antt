pub mod Deciding
mod Naming

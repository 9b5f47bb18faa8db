pub mod Fanout

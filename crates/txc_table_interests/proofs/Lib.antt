pub mod Waiting
pub mod Keeping
pub mod Same
pub mod Going
pub mod Missing

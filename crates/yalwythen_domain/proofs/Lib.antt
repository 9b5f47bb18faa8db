pub mod Alone
pub mod Coming
pub mod Going
pub mod Sound
pub mod Writing
pub mod Transacting

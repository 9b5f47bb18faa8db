pub mod InTurn
pub mod Running
pub mod Positions
pub mod Turning
pub mod Sorting
pub mod Opening
pub mod Testing
pub mod Left
pub mod Ending
pub mod OneSort
pub mod OneOrder
pub mod OneRun
pub mod Serial
mod Unmet

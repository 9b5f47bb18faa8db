pub mod Refusal
pub mod Gathered
pub mod Sorted
pub mod Finished
pub mod Out

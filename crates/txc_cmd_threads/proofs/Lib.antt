mod Sends
mod Serving
mod Back
pub mod History
mod Closed
mod FinalTries

pub mod QueueFault
pub mod Queue
pub mod BoundQueue

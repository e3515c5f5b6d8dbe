pub mod Ends
pub mod EndsHistory
pub mod QueueHistory
pub mod Queues

pub mod LeastTaken
pub mod LoadProgress
pub mod PartedRecords
pub mod Beginnings
pub mod PassedEntries
pub mod LeastLive
pub mod PartitionWalks

pub mod OwnerLocks
pub mod KeyCounts
pub mod Chains
pub mod Table
pub mod Answers

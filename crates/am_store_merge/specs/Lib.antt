pub mod LockHolders
pub mod Walks
pub mod Steps
pub mod Fronts

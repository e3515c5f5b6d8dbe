pub mod Actives
pub mod TransactionEnds
pub mod Grants
pub mod Operations
pub mod Merges
pub mod StepsKeep
mod Rooms
pub mod StoreSteps
pub mod EntryWalks

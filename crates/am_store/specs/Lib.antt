pub mod OperationSteps
pub mod Memory
pub mod Rooms
pub mod StoreContent
pub mod InnerState
pub mod Admission
pub mod StoreSteps
pub mod EntryWalks

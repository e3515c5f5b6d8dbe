pub mod Memory
pub mod OperationSteps
pub mod Updates

pub mod Faults
pub mod AuditStates
pub mod Progress

pub mod Counters
pub mod Faults

pub mod Trials
pub mod Open
pub mod Bounds

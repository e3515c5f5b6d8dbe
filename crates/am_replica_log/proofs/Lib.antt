pub mod Filters
pub mod Floors
pub mod Once
pub mod Snapshots
pub mod Standing

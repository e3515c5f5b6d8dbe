pub mod Changes
pub mod Traces
pub mod Copies
pub mod EngineFields
pub mod HandOuts
pub mod HandedFields
pub mod Sizes
pub mod Wants

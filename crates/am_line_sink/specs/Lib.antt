pub mod SinkWrites
pub mod Failures
pub mod OverWriter

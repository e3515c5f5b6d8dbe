pub mod Heard
pub mod Progress

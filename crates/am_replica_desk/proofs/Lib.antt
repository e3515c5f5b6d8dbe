pub mod Line
pub mod Rest
pub mod Steps

pub mod Code
pub mod Least
pub mod Marks
pub mod Notes
pub mod Slots

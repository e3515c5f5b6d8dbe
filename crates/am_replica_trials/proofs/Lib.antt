pub mod Lines
pub mod Answers
pub mod Blocks
pub mod Bounds
pub mod InOrder

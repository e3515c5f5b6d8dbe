pub mod Blocks
pub mod Fields
pub mod Loop

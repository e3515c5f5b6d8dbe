pub mod Cut
pub mod Turns
pub mod WriterState
pub mod Writing

pub mod Slots
pub mod TakeBacks
mod Run
mod Log
pub mod NoteChains
mod Above
pub mod Fits
pub mod NotesSinceMarks

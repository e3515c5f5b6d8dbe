pub mod Notes
pub mod Log
pub mod Undo
pub mod Marks

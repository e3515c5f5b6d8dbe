pub mod Rooms
pub mod Ghosts
mod Updates

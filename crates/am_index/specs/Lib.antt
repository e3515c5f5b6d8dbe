pub mod EntryCode
pub mod Entries
pub mod Places
pub mod Edits
pub mod Walks
pub mod Content
pub mod Runs
pub mod Rooms

pub mod Lists
pub mod Batches
pub mod Searches
pub mod Edits
pub mod EditLaws
pub mod Insertions
pub mod Content
pub mod ContentLaws
pub mod WalkLaws
pub mod ReadLaws
pub mod Runs
pub mod RunLaws
pub mod Removals
pub mod Rooms
pub mod Rows
mod RowLaws

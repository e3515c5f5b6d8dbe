pub mod Holders
pub mod Firsts
pub mod Walks
pub mod EntriesGoHome
mod Rooms
pub mod PassingPrefixes
pub mod PassedRuns
pub mod Stretches
pub mod LeftRuns
pub mod MergeSteps
pub mod Replies
pub mod CleanSteps
mod Fronts

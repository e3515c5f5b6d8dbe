pub mod Limits
pub mod Counts
pub mod Answers
pub mod Requests
pub mod Gaps

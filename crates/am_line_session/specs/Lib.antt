pub mod Heard
pub mod Waits
pub mod OneAnswer
pub mod ServedSessions
pub mod Stops
pub mod Unsent

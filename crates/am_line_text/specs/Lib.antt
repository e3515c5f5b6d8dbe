pub mod Fields
pub mod Numbers
pub mod Keys
pub mod Values
pub mod Records
pub mod Locks
pub mod Verbs
pub mod ReplyWords

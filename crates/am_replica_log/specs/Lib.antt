pub mod History
pub mod LogState
pub mod Readers
pub mod Writers

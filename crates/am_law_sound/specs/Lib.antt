pub mod Represents
pub mod Right
pub mod StoreState
pub mod StateOf
pub mod Tables

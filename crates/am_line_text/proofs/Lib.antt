pub mod Places
pub mod Spaces
pub mod Numerals
pub mod Keys
pub mod Values
pub mod Records
pub mod Modes
pub mod VerbWords

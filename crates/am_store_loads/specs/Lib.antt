pub mod Loads
pub mod Looks
pub mod Walk

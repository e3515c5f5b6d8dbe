pub mod Desks
pub mod Calls

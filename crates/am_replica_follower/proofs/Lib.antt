pub mod Following
pub mod Joining

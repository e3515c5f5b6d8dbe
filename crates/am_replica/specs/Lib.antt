pub mod Bodies
pub mod Ordered
pub mod Told

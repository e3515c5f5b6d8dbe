pub mod Cuts
pub mod Handed
pub mod OnWay

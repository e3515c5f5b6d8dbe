pub mod HeldValues
pub mod LooseValues
pub mod Moves

pub mod OnlyOwnerLocks
pub mod HeldLocks

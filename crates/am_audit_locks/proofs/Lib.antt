pub mod Tables
mod OnlyOwnerLocks
mod OnlyOwners

pub mod Faults
pub mod Holds
pub mod Receipts
pub mod Tables
pub mod Ties
pub mod Wants
pub mod Fields

pub mod Crosses
pub mod Receipts
pub mod Calls
pub mod SeatOrder
mod OneMore

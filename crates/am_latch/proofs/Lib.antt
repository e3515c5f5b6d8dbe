pub mod Crosses
pub mod CallResults
pub mod EngineAndToken
pub mod SeatReceipts
pub mod Opens
pub mod Seats
pub mod SeatTransactions
pub mod ReceiptRooms

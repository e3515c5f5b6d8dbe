pub mod HttpLines
pub mod HttpEnds
pub mod Requests
pub mod AcceptorOrders
pub mod TurnOrders
pub mod PassedLines

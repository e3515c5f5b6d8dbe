pub mod Crosses
pub mod ServedSessions
pub mod WorkedSeats
pub mod StoredTraces
pub mod InTurn

pub mod ToldSessions
pub mod SessionSeats
pub mod Seats

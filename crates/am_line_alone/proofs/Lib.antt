pub mod Solos
pub mod StoreSessions

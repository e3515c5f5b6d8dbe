pub mod Solo
pub mod StoreSessions

pub mod LogCalls
pub mod ReplicaCalls
pub mod Rows
pub mod TransactionCalls
pub mod WaitsCalls

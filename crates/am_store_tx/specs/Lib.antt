pub mod Active
pub mod Txs
pub mod LentLogs

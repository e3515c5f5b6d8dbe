pub mod CallLogs
pub mod Receipts
pub mod Views
pub mod HandOutRule

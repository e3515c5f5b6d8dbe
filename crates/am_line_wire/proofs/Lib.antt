pub mod Texts
pub mod Forms
pub mod GrammarReadings
pub mod RowTexts
pub mod Loads
pub mod VisibleRequests

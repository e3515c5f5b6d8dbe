pub mod Conversations
pub mod SaidByMap
pub mod Dialogues
pub mod VisibleMaps
pub mod VisibleStores
pub mod AnsweredLines
pub mod FoundMemory
pub mod StagedLines
mod WhoTexts

pub mod SourceReads
pub mod OverReader
pub mod Lines
pub mod LineAnswers

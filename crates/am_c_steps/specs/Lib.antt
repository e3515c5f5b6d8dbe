pub mod AnswerParts
pub mod AskedSteps
pub mod Bringings
pub mod Lines
pub mod LoadAnswers
pub mod Statuses
pub mod Structs
pub mod Texts

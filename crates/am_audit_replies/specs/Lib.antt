pub mod Refused
pub mod OwnAnswers
pub mod Trials

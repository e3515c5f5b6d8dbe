pub mod Judgements
pub mod Answers

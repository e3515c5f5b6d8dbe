pub mod Events
pub mod Writers
pub mod WriterLaws

pub mod Faults
pub mod Subjects
pub mod Reports

pub mod Digits
pub mod ReadRecords
pub mod Fronts
pub mod LaneDigits
pub mod LimitFields

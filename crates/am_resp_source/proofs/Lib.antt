pub mod Fronts
pub mod LineReadings
pub mod Steps
pub mod Wholes

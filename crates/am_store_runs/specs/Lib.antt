pub mod Cuts
pub mod Fronts
pub mod RecordPlaces

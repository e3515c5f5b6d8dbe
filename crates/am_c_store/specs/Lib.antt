pub mod Fronts
pub mod Loads
pub mod StoreFigures
pub mod StoreRow
pub mod StoreSteps

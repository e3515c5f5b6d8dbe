pub mod ServerTraces
pub mod Headers
pub mod Pieces
pub mod Listeners

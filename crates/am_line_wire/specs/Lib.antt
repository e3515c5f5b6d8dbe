pub mod Shapes
pub mod Arguments
pub mod Grammar
pub mod LineReadings
pub mod Replies
pub mod Visible

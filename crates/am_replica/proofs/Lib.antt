pub mod Given
pub mod Kept
pub mod OneMore
pub mod ReadOnly
pub mod Serial
pub mod States

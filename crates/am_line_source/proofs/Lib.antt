pub mod Streams
pub mod CutLines
pub mod LineEnds
pub mod ReadLines

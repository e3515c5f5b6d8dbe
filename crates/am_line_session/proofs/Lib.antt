pub mod Streams
pub mod HeardLines
pub mod SessionProgress
pub mod LastAborts
pub mod Ends

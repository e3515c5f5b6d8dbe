pub mod Replies
pub mod FittingReplies
pub mod StoreAnswers
pub mod FullSeats
pub mod Rooms
pub mod MemoryWants

pub mod AppendedRuns
pub mod Counts
pub mod Alive
mod Settling
pub mod ListedRuns
pub mod OpenRuns
pub mod CatalogCalls
pub mod CountedAtOnce
pub mod SettledEntries
pub mod OneRunMore
pub mod KeyLooks
pub mod Lives
mod MergedKnowledge
pub mod ApartRuns
pub mod Filters
pub mod KnownKeys
mod MeetingRuns
mod PartLists
mod RecordRanges
pub mod RunNumbers
mod Homes
mod Changes
mod StandingEntries
mod HomeRooms
pub mod Neighbours
pub mod Looks
pub mod ReplacedRanges

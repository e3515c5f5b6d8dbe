mod Above
mod Leasts
mod Live
mod Maps
mod Marks
mod OrderedRanges
mod SortedEntries

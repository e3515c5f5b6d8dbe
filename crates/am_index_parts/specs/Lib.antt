pub mod ApartRuns
pub mod Catalogs
pub mod Figures
pub mod GoingHome
pub mod MergedRanges
pub mod Partitions
pub mod RunFilters
pub mod RunKeys

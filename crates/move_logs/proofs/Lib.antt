-- The laws of needs, of counts, of writes and of logs as values; their links to the definitions; where logs stand.
pub mod PaddedLists
pub mod Needs
pub mod NeedsAndCounts
pub mod CountsLeft
pub mod LowestShort
pub mod Writes
pub mod StoredLogs
pub mod LogOffsets

pub mod Needs
pub mod Writes
pub mod Values
pub mod LogOffsets

pub mod Positions
pub mod ReadParts

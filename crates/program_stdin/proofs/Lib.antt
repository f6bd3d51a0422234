pub mod WrittenParts
pub mod FullReads

pub mod Decoded
pub mod TermMeasures

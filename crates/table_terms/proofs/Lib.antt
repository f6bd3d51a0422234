pub mod TermKinds
pub mod TermMeasures
pub mod Stores
pub mod Limits

pub mod Syntax
pub mod State
pub mod Log
pub mod Reduction
pub mod Checks

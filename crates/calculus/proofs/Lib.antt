pub mod States
pub mod Logs
pub mod Reductions
pub mod Steps
pub mod Outcomes
pub mod Notation
pub mod Table3
pub mod Table2

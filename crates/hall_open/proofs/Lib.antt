pub mod Processes
pub mod Stack
pub mod Opening
pub mod ShownTurns

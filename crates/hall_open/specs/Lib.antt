pub mod Opening
pub mod Turns

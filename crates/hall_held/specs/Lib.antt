pub mod Starts
pub mod Holds
pub mod Choices

pub mod Starts
pub mod Holds
pub mod Replacements
pub mod MovesInPlace
pub mod AcceptedActs
pub mod Choices

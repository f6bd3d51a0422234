pub mod Suggestions

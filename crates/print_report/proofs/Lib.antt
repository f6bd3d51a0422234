pub mod TableParts
pub mod RunTexts
pub mod Inputs

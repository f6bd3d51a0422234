pub mod MadeEntries
pub mod RunSteps

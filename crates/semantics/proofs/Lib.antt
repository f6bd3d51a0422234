-- The worked examples, computed.
pub mod Examples
pub mod MoveExamples
pub mod EdgeExamples
pub mod GainExamples
pub mod SuggestionExamples
pub mod StepExamples
pub mod ShortageExamples
pub mod TurnExamples
pub mod Sentences
pub mod ConverseExamples
pub mod Denotation
pub mod DenotationExamples
pub mod StoredExamples
pub mod LineExamples
pub mod Answers
pub mod MeasureExamples
pub mod Promises

-- The definitions compared with documents 01 and 02, piece by piece: tables, measures and paths, moves, handovers, refusals,
-- answers, stored form and bytes, printed run and its lines, shortages, turns of an opening, sentences and worked examples;
-- and that no definition runs out of its turns. Assumes nothing.
pub mod StatedMoves
pub mod AcceptedTables
pub mod StoredForm
pub mod StoredBytes
pub mod Conditions
pub mod Answers
pub mod CallLists
pub mod Steps
pub mod Notes
pub mod PrintedRun
pub mod Decimals
pub mod PrintedLines
pub mod Examples
pub mod GainExamples
pub mod ConverseSteps
pub mod Handovers
pub mod StatedSuggestions
pub mod EdgeExamples
pub mod SuggestionExamples
pub mod StepExamples
pub mod LongExamples
pub mod ShortageExamples
pub mod TurnExamples
pub mod ConverseExamples
pub mod DenotationExamples
pub mod StoredExamples
pub mod LineExamples
pub mod Sentences
pub mod Branches
pub mod Fuels
pub mod MeasureExamples

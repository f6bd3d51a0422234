-- What every call of the engine gives, on bytes; and what the claims compare it with: the steps done and the one-step
-- run. Assumes nothing.
pub mod Layout
pub mod Basics
pub mod Terms
pub mod Table
pub mod Shortage
pub mod Logs
pub mod Configuration
pub mod Stored
pub mod Moves
pub mod Run
pub mod AtomicRun
pub mod Calls
pub mod Turns
pub mod Suggestion
pub mod Report
pub mod Sentence

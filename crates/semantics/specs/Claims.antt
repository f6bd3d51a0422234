-- What is claimed of those definitions: suggestions, demand 2, demand 3, the moves inside an attempt, the shortages, the
-- turns of an opening, the accounts, the sentences. Assumes nothing.
pub mod Suggestions
pub mod Denotation
pub mod Correspondence
pub mod NumberedRun
pub mod ConverseRuns
pub mod Atomicity
pub mod InnerMoves
pub mod Shortages
pub mod Turns
pub mod Accounts
pub mod Sentences

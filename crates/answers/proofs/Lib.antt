pub mod Numbers
pub mod CounterLaws
pub mod Cases
pub mod TurnCases
pub mod SentenceBytes
pub mod Injective
pub mod Zeros
pub mod Theorems

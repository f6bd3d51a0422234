pub mod Lengths
pub mod SentenceParts
pub mod SentenceCalls

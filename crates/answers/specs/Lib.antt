pub mod Answers
pub mod Answered
pub mod Claims
pub mod Promises

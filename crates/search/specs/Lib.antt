pub mod Room
pub mod Finding
pub mod Answers
pub mod Outcomes
pub mod Promises

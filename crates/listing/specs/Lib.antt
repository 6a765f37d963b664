pub mod Listing
pub mod Answers
pub mod Outcomes
pub mod Promises

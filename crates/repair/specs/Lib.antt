pub mod Changes
pub mod Marking
pub mod Repairing
pub mod Answers
pub mod Outcomes
pub mod Promises

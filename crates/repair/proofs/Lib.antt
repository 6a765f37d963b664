pub mod Rewriting
pub mod Outcomes
pub mod Listed
pub mod Promises

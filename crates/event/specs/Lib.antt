pub mod Event
pub mod Outcomes
pub mod Promises

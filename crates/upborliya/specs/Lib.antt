pub mod Packed
pub mod Outcomes
pub mod Promises

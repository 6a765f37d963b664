pub mod Rooms
pub mod Taking
pub mod Outcomes
pub mod Found
pub mod Promises

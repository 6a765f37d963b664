pub mod Items
pub mod Promises

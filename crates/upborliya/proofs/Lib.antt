pub mod GivesBack
pub mod ReadingBack
pub mod RepairBack
pub mod Promises

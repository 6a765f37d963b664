pub mod Object
pub mod Record
pub mod Loan
pub mod Taking
pub mod Answers
pub mod Outcomes
pub mod Promises
pub mod Widths

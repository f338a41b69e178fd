-- What the promises are stated with.
pub mod Reports
pub mod Answers
pub mod Sheets
pub mod Prints
pub mod Settles

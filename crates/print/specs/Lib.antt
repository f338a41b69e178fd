-- What is cited of text in a lent buffer.
pub mod Puts
pub mod Wrote

-- The words that the calls for C give and take.
pub mod Words
pub mod Lines

-- The lines of an answer.
pub mod Distance
pub mod Answer

-- What the readers of a line give.
pub mod Readers

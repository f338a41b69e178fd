-- The parts of a place sheet, as they are read.
pub mod Parts

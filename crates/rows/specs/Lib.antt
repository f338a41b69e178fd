-- The place sheet.
pub mod Sheet
pub mod Pieces

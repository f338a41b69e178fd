-- What the contracts about members cite.
pub mod Boxes
pub mod Columns
pub mod Levels
pub mod Best

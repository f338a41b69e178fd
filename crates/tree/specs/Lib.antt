-- What the contracts of the tree cite.
pub mod Tree
pub mod Rules
pub mod Lent

-- What the contracts of filling cite.
pub mod Lent

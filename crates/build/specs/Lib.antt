-- What the contracts of the builder cite.
pub mod Room
pub mod Lent

-- What the contracts of our own tree cite.
pub mod Own

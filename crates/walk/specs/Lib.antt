-- What the contract of the walk cites.
pub mod State

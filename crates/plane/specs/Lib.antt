-- What the contracts of the plane cite.
pub mod Plane
pub mod Root
pub mod Run

-- What the contracts of every crate cite of refusals.
pub mod Decided
pub mod First
pub mod Numbers
pub mod Rules
pub mod Families

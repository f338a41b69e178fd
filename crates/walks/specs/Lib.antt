-- The walk, apart from what a candidate, a group or a bound is.
pub mod Lists
pub mod Walk
pub mod Order
pub mod Best
pub mod Allowance

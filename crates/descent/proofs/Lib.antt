-- The candidates that come of an opened one.
pub mod BelowLaws

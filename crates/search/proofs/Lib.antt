-- The demands on a search.
pub mod DemandLaws

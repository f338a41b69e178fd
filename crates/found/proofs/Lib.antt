-- The search by cases.
pub mod SearchLaws
pub mod Soundings

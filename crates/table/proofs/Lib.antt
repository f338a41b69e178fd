-- Laws of tables.
pub mod TableLaws
pub mod Soundings

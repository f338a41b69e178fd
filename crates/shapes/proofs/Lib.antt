-- Laws of the rules 21 to 23.
pub mod RunLaws

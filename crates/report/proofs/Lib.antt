-- Laws of the lines of an answer.
pub mod RootLaws
pub mod GroupLaws
pub mod Soundings

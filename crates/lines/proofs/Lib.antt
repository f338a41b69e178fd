-- Laws of numbers as text, of lines, and of sheets made of them.
pub mod DigitLaws
pub mod NumberLaws
pub mod FormLaws
pub mod LineLaws
pub mod PartLaws
pub mod CodeLaws
pub mod Soundings

-- Laws of kit words.
pub mod BitLaws
pub mod KindLaws
pub mod ListLaws
pub mod Soundings

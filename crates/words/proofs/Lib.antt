-- Laws of the words.
pub mod WordLaws
pub mod FitLaws
pub mod LineLaws
pub mod SearchLaws
pub mod BackLaws

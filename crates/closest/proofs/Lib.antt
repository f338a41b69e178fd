-- Laws of groups, candidates and the walk of a want.
pub mod SpreadLaws
pub mod TopLaws
pub mod EntryLaws
pub mod CandidateLaws
pub mod ReachLaws
pub mod DropLaws
pub mod AnswerLaws
pub mod Soundings

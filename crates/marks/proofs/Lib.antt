-- Laws of rule 24.
pub mod RepeatLaws
pub mod MarkLaws

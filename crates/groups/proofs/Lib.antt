-- The groups of an opened candidate are taken as the walk takes them.
pub mod AheadLaws
pub mod StepLaws
pub mod TurnLaws
pub mod EntryLaws
pub mod Opens
pub mod RunLaws
pub mod RoundLaws
pub mod MemberLaws
pub mod ColumnLaws
pub mod OpenLaws
pub mod NextLaws
pub mod LoopLaws
pub mod UnknownLaws

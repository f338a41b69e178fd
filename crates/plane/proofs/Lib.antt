-- Laws that the proofs here and in other crates cite.
pub mod WholeLaws
pub mod GapLaws
pub mod JoinLaws
pub mod BoxLaws
pub mod SameLaws
pub mod RunLaws
pub mod RootLaws
pub mod SignedLaws
pub mod Soundings

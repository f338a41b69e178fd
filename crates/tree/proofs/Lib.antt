-- Laws of trees.
pub mod Flags
pub mod DecidesLaws
pub mod OwnerLaws
pub mod NameLaws
pub mod Pigeonholes
pub mod NodeLaws
pub mod KeptLaws
pub mod BelowLaws
pub mod TreeLaws
pub mod RangeLaws
pub mod Soundings
mod JoinLaws

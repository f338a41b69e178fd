-- Laws of the readers of a line.
pub mod CutLaws
pub mod ParseLaws
pub mod SignedLaws
pub mod ReadLaws
pub mod KnownLaws

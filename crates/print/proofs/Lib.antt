-- Laws of text in a lent buffer.
pub mod PutLaws
pub mod LeftLaws
pub mod SignLaws
pub mod WroteLaws

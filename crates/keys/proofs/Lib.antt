-- Laws of the key and its bits.
pub mod KeyLaws
pub mod SpreadLaws

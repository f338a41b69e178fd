-- Laws of our own tree.
pub mod LevelLaws
pub mod RankLaws
pub mod ChainLaws
pub mod LaidLaws
pub mod Soundings

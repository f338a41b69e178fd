-- Our own tree.
pub mod Levels
pub mod Built
pub mod Laid

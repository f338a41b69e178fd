-- What the contracts of kit words cite.
pub mod Kit

-- Groups and the answer to a want; candidates over a tree and the walk.
pub mod Group
pub mod Candidate
pub mod Walk

-- The walk meets its contract.
pub mod BridgeLaws
pub mod RootLaws

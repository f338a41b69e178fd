-- What is promised.
pub mod ReportLaws
pub mod DiameterLaws
pub mod EndLaws
pub mod ReadLaws
pub mod PrintLaws
pub mod OneLaws
pub mod Demands
mod SaidLaws
pub mod Unique
pub mod UniqueWithin
pub mod UniqueReader
pub mod Starred

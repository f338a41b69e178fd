-- Laws of lines that are read in one go.
pub mod QuickLaws

-- Laws of the place sheet.
pub mod WriteLaws
pub mod WriteSoundings
pub mod ReadingLaws
pub mod ReadSoundings

-- Laws of the lines of a place sheet.
pub mod PlaceLaws

-- Laws of the parts of a place sheet, as they are read.
pub mod PlaceLaws
pub mod HeadLaws
pub mod QueryLaws

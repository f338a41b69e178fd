-- Laws of the place sheet.
pub mod RowLaws
pub mod SheetLaws
pub mod Soundings
pub mod PieceLaws
pub mod SizeLaws

-- Laws of the passes over a place sheet.
pub mod SeveralLaws
pub mod ColumnLaws
pub mod ScanLaws

-- Laws of columns that are filled.
pub mod FillLaws
pub mod ValueLaws

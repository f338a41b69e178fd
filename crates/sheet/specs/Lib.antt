-- What is cited of the place sheet.
pub mod Write

-- What is cited of lines that are read in one go.
pub mod Quick

-- What is cited of the printed answer.
pub mod Lent

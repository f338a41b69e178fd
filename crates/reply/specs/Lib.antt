-- What is cited of the program's answer.
pub mod Reply

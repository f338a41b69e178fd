-- What is cited of numbers as text, of lines, and of sheets made of them.
pub mod Text
pub mod Form
pub mod Line
pub mod Part

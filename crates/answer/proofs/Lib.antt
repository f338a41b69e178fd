-- Laws of the printed answer.
pub mod AnswerLaws
pub mod LengthLaws
pub mod LentLaws

-- Where the answer has no room nothing happens.
use Rattle.answer.proofs.LentLaws.{too_short}
use Rattle.boundary.proofs.longhorbi_squared.Goals as goal

pub returns-then-answer-lt3 : goal.returns-then-answer-lt3
returns-then-answer-lt3 c = let l = too_short _ _ c.if-answer-lt3.true in record { value = l.0; answer_after = l.1 }

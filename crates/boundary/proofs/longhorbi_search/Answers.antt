-- Where the answer has no room nothing happens.
use Rattle.answer.proofs.LentLaws.{too_short}
use Rattle.words.proofs.SearchLaws.{no_room}
use Rattle.boundary.proofs.longhorbi_search.Goals as goal

pub returns-then-answer-lt13 : goal.returns-then-answer-lt13
returns-then-answer-lt13 c =
    let l = too_short _ _ (no_room _ _ _ _ c.args.answer.now c.if-answer-lt13.true) in
    record { value = l.0; answer_after = l.1 }

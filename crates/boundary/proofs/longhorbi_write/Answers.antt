-- Where the answer has no room nothing happens, and else the sheet is written.
use Rattle.std.proofs.Common.{ℕ, List, ap, ◌∙◌}
use Rattle.answer.proofs.LentLaws.{too_short}
use Rattle.boundary.proofs.KeptLaws.{with_room, without_room, write_leaves_lem}
use Rattle.boundary.proofs.longhorbi_write.Goals as goal

pub returns-then-answer-lt3 : goal.returns-then-answer-lt3
returns-then-answer-lt3 c =
    let short = c.if-answer-lt3.true in
    let l = too_short _ _ short in
    record { value = l.0; answer_after = l.1; out_after = without_room 3 _ _ _ short }

pub returns-clause-out_after : goal.returns-clause-out_after
returns-clause-out_after c =
    let e = c.write.ensures in
    ap (λ (a : ℕ × List ℕ). a.1) (write_leaves_lem _ _ _ _ e.refused e.out_after) ∙ with_room 3 _ _ _ c.if-answer-lt3.false

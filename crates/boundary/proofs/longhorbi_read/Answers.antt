-- Where the answer has no room nothing happens, and else the sheet is read.
use Rattle.std.proofs.Common.{ap, ◌∙◌}
use Rattle.table.specs.Table.{Table}
use Rattle.answer.proofs.LentLaws.{too_short}
use Rattle.boundary.proofs.KeptLaws.{with_room, without_room}
use Rattle.boundary.proofs.longhorbi_read.Goals as goal

pub returns-then-answer-lt5 : goal.returns-then-answer-lt5
returns-then-answer-lt5 c =
    let short = c.if-answer-lt5.true in
    let l = too_short _ _ short in
    record {
      value = l.0;
      answer_after = l.1;
      x_after = without_room 5 _ _ _ short;
      y_after = without_room 5 _ _ _ short;
      kit_after = without_room 5 _ _ _ short;
    }

pub returns-clause-x_after : goal.returns-clause-x_after
returns-clause-x_after c = ap (λ (t : Table). t.x) c.read.ensures.columns_after ∙ with_room 5 _ _ _ c.if-answer-lt5.false

pub returns-clause-y_after : goal.returns-clause-y_after
returns-clause-y_after c = ap (λ (t : Table). t.y) c.read.ensures.columns_after ∙ with_room 5 _ _ _ c.if-answer-lt5.false

pub returns-clause-kit_after : goal.returns-clause-kit_after
returns-clause-kit_after c = ap (λ (t : Table). t.kit) c.read.ensures.columns_after ∙ with_room 5 _ _ _ c.if-answer-lt5.false

use Rattle.std.proofs.Common.{◌≡◌, rules, tests}
use Rattle.std.proofs.lemmas.Iterator.{IsFirst-from_position, YieldsList-from_slice}
use Rattle.lines.proofs.FormLaws.{NoFeed}
use Rattle.readers.proofs.CutLaws.{ends_first}
use Rattle.readers.proofs.line_end.Goals as goal

pub returns : goal.returns
returns c =
    ends_first c.args.t.now c.position.result c.min-near.result (c.min-near.ensures)
    (IsFirst-from_position _ _ _ (λ x. x ≡ 10) NoFeed c.position.ensures.ran (YieldsList-from_slice _ c.iter.ensures.rest) (λ x q k. search (rules, tests)) (λ x q k. search (rules, tests)))

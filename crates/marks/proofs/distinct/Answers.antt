use Rattle.std.proofs.Common.{sym}
use Rattle.verdict.proofs.RuleLaws.{all_hold}
use Rattle.marks.proofs.distinct.Goals as goal

pub returns-then-named_once : goal.returns-then-named_once
returns-then-named_once c = sym (all_hold _ (c.named_once.ensures.holds c.if-named_once.true, tt))

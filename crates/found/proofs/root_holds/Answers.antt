use Rattle.std.proofs.Common.{sym, ◌∙◌, arith}
use Rattle.tree.specs.Lent.{tree}
use Rattle.found.proofs.SearchLaws.{begins_not, begins_held}
use Rattle.found.proofs.root_holds.Goals as goal

pub returns-then-nodes-eq0 : goal.returns-then-nodes-eq0
returns-then-nodes-eq0 c = λ t s b e. sym (begins_not t (tree s b _) _ (e ∙ c.if-nodes-eq0.true))

pub returns : goal.returns
returns c = λ t s b e. c.holds_all.ensures ∙ sym (begins_held t (tree s b _) _ (omega (arith, e, c.if-nodes-eq0.false)))

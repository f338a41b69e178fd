use mathlib.Core.Path.{sym, ◌∙◌}
use native.Mathlib.Omega.{arith}
use Rattle.kit.proofs.ListLaws.{start, more, full, refilled, met, from_first, from_next, from_last, keep_is}
use Rattle.kit.proofs.list_kinds.Goals.{then-holds, else-holds}
use Rattle.kit.proofs.list_kinds.Goals as goal

pub loop-k-init : goal.loop-k-init
loop-k-init c = start (from_first c.args.want)

pub loop-k-preserved : goal.loop-k-preserved
loop-k-preserved c =
    let w = c.args.want in
    let k = c.loop-k.k in
    let e = rw c.from.ensures at c.holds.ensures in
    let f = from_next w k c.loop-k-test.true in
    elim c.if-holds.branch [
      | then-holds t ↦ met t.kinds-is t.count-is (more (refilled (f ∙ keep_is w k _ (sym e ∙ t.if-holds.true)) c.loop-k.invariant) c.requires)
      | else-holds t ↦ met t.kinds-is t.count-is (refilled (f ∙ keep_is w k _ (sym e ∙ t.if-holds.false)) c.loop-k.invariant)
    ]

pub returns-after-loop-k : goal.returns-after-loop-k
returns-after-loop-k c = full (refilled (from_last c.args.want c.loop-k.k (omega arith)) c.loop-k.invariant)

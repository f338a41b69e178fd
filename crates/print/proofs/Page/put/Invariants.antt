-- The bytes passed are copied.
use mathlib.Core.Path.{◌≡◌}
use lib.Seq.{paste}
use Rattle.print.proofs.Page.put.Given as goal

abbrev pub invariant-loop-i : goal.invariant-loop-i
invariant-loop-i l = l.out ≡ paste l.initial.out l.fn.self.at l.text l.i

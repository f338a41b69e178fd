-- The entries below i are new; those below j are compared with the entry at i and name something else.
use Rattle.std.proofs.Common.{◌≡◌}
use Rattle.std.specs.Prelude.{None}
use Rattle.tree.specs.Rules.{New}
use Rattle.tree.proofs.OwnerLaws.{Walked}
use Rattle.marks.proofs.RepeatLaws.{Compared}
use Rattle.marks.proofs.repeats.Given as goal

abbrev pub invariant-search : goal.invariant-search
invariant-search l = record { passed : Walked l.s (New l.s) l.i l.n; none : l.repeated ≡ None }

abbrev pub invariant-loop-j : goal.invariant-loop-j
invariant-loop-j l = record { compared : Compared l.s l.i l.j l.m; none : l.repeated ≡ None }

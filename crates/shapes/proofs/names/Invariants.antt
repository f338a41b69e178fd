-- The entries below i are named as they may be, and i stands in the run of n.
use Rattle.tree.proofs.OwnerLaws.{Walked}
use Rattle.tree.proofs.NameLaws.{Names}
use Rattle.shapes.proofs.names.Given as goal

abbrev pub invariant-loop-i : goal.invariant-loop-i
invariant-loop-i l = Walked l.s (Names l.places l.s) l.i l.n

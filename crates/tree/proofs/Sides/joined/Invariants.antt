-- `all` is the join of the boxes at the entries of the run before i.
use Rattle.std.proofs.Common.{◌≡◌, ◌-◌, get_or}
use Rattle.plane.specs.Plane.{join_boxes}
use Rattle.plane.specs.Run.{joined}
use Rattle.tree.specs.Tree.{box_at}
use Rattle.tree.proofs.Sides.joined.Given as goal

abbrev pub invariant-loop-i : goal.invariant-loop-i
invariant-loop-i l = l.all ≡ joined join_boxes (λ i. box_at l.self (get_or l.entries i 0)) l.from (l.i - l.from - 1)

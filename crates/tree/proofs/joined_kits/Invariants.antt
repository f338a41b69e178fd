-- `all` is the or of the kit words at the entries of the run before i.
use Rattle.std.proofs.Common.{◌≡◌, ◌-◌, get_or, bit_or}
use Rattle.plane.specs.Run.{joined}
use Rattle.tree.proofs.joined_kits.Given as goal

abbrev pub invariant-loop-i : goal.invariant-loop-i
invariant-loop-i l = l.all ≡ joined bit_or (λ i. get_or l.kits (get_or l.entries i 0) 0) l.from (l.i - l.from - 1)

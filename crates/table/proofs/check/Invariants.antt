-- The places below p are in range.
use Rattle.std.proofs.Common.{ℕ, ◌<◌}
use Rattle.plane.specs.Plane.{Ranged}
use Rattle.table.specs.Table.{box_of}
use Rattle.table.proofs.check.Given as goal

abbrev pub invariant-loop-p : goal.invariant-loop-p
invariant-loop-p l = (q : ℕ) → q < l.p → Ranged (box_of l.t q)

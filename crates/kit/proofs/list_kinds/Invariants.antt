-- The kinds below k are listed, and those from k on are still to come.
-- Assumes nothing.
use Prim.Native.Nat.{◌-◌}
use Rattle.kit.specs.Kit.{kinds_from}
use Rattle.kit.proofs.ListLaws.{Filled}
use Rattle.kit.proofs.list_kinds.Given as goal

abbrev pub invariant-loop-k : goal.invariant-loop-k
invariant-loop-k l = Filled l.want l.kinds l.count (kinds_from l.want l.k (64 - l.k))

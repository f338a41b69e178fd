use Rattle.std.proofs.Common.{◌≤◌}
use Rattle.readers.proofs.ParseLaws.{Sofar}
use Rattle.quick.proofs.number_to_feed.Given as goal

abbrev pub invariant-loop-i : goal.invariant-loop-i
invariant-loop-i l = Sofar 10 l.t l.a l.i × (l.a ≤ l.most)

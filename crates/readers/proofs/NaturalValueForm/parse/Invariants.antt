use Rattle.std.proofs.Common.{◌≤◌}
use Rattle.readers.proofs.ParseLaws.{Sofar}
use Rattle.readers.proofs.NaturalValueForm.parse.Given as goal

abbrev pub invariant-loop-c : goal.invariant-loop-c
invariant-loop-c l = Sofar 10 l.t l.a l.c-index × (l.a ≤ l.most)

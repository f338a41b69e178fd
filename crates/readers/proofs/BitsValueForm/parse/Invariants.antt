use Rattle.readers.proofs.ParseLaws.{Sofar}
use Rattle.readers.proofs.BitsValueForm.parse.Given as goal

abbrev pub invariant-loop-c : goal.invariant-loop-c
invariant-loop-c l = Sofar 16 l.t l.a l.c-index

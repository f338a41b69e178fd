-- What stands before i is new each time, and just that is marked.
use Rattle.marks.proofs.MarkLaws.{Marked}
use Rattle.marks.proofs.marked_once.Given as goal

abbrev pub invariant-loop-i : goal.invariant-loop-i
invariant-loop-i l = Marked l.s l.i l.n l.seen

-- Whatever the entries are: the first n nodes are shaped, and the next run is due at `due`.
use Rattle.std.proofs.Common.{List, ℕ}
use Rattle.tree.specs.Lent.{shape}
use Rattle.shapes.proofs.RunLaws.{Passed}
use Rattle.shapes.proofs.runs.Given as goal

abbrev pub invariant-loop-n : goal.invariant-loop-n
invariant-loop-n l = (entries : List ℕ) → Passed (shape l.s.nodes l.s.listed l.s.level l.s.start l.s.count entries) l.n l.due

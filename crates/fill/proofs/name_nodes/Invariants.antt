-- Each index passed names the next node.
use Rattle.std.proofs.Common.{suc}
use Rattle.fill.proofs.FillLaws.{Filling}
use Rattle.fill.proofs.name_nodes.Given as goal

abbrev pub invariant-loop-i : goal.invariant-loop-i
invariant-loop-i l = Filling 0 suc l.initial.entries l.entries 0 l.i

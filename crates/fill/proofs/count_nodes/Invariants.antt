-- The levels counted so far and those above make up all nodes.
use Rattle.levels.proofs.LevelLaws.{Counting}
use Rattle.fill.proofs.count_nodes.Given as goal

abbrev pub invariant-loop-size : goal.invariant-loop-size
invariant-loop-size l = Counting l.n l.size l.nodes

abbrev pub decreases-loop-size : goal.decreases-loop-size
decreases-loop-size l = l.size

-- The nodes below n have the tightest boxes.
use Rattle.tree.specs.Rules.{Boxed}
use Rattle.tree.proofs.NodeLaws.{Nodes}
use Rattle.inspect.proofs.boxes.Given as goal

abbrev pub invariant-loop-n : goal.invariant-loop-n
invariant-loop-n l = Nodes l.tree.shape (Boxed l.t l.tree.sides l.tree.shape) l.n

-- The nodes below n have the or of their entries' kit words.
use Rattle.tree.specs.Rules.{Kitted}
use Rattle.tree.proofs.NodeLaws.{Nodes}
use Rattle.inspect.proofs.kit_words.Given as goal

abbrev pub invariant-loop-n : goal.invariant-loop-n
invariant-loop-n l = Nodes l.tree.shape (Kitted l.t l.tree.kits l.tree.shape) l.n

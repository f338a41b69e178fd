-- The nodes from m on have their boxes and kit words.
use Rattle.tree.specs.Lent.{sides}
use Rattle.fill.proofs.ValueLaws.{Valued}
use Rattle.fill.proofs.fill_values.Given as goal

abbrev pub invariant-loop-m : goal.invariant-loop-m
invariant-loop-m l =
    Valued l.t l.shape.nodes (sides l.initial.x_lo l.initial.x_hi l.initial.y_lo l.initial.y_hi) (sides l.x_lo l.x_hi l.y_lo l.y_hi) l.initial.kits l.kits l.m

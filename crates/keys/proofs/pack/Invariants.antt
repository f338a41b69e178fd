-- The words of the places passed are written.
-- Assumes nothing.
use mathlib.Core.Path.{◌≡◌}
use mathlib.Core.List.{◌++◌}
use lib.ListN.{drop, length}
use Rattle.order.specs.Order.{word}
use Rattle.order.specs.Tab.{tab}
use Rattle.keys.proofs.pack.Given as goal

abbrev pub invariant-loop-p : goal.invariant-loop-p
invariant-loop-p l = l.to ≡ tab (word l.x l.y) (length l.yielded) ++ drop (length l.yielded) l.initial.to

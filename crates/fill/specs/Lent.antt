-- The columns that are lent for the values of the nodes, as they are handed back.
-- Assumes nothing.
use Rattle.std.specs.Prelude.{List, ℕ, ℤ}
use Rattle.std.specs.Borrow.{MutBor}
use Rattle.tree.specs.Tree.{Sides}
use Rattle.tree.specs.Lent.{sides}

-- the boxes and the kit words that stand there afterwards
abbrev pub left : MutBor (List ℤ) × (MutBor (List ℤ) × (MutBor (List ℤ) × (MutBor (List ℤ) × (MutBor (List ℕ) × Unit {0})))) → Sides × List ℕ
left (x_lo, (x_hi, (y_lo, (y_hi, (kits, _))))) = (sides x_lo.now x_hi.now y_lo.now y_hi.now, kits.now)

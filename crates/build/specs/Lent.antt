-- The columns that are lent to the builder, before and after, as a tree.
-- Assumes nothing.
use Rattle.std.specs.Prelude.{List, ℕ, ℤ, Result, Ok, Err}
use Rattle.std.specs.Borrow.{MutBor}
use Rattle.tree.specs.Tree.{Tree}
use Rattle.tree.specs.Lent.{shape, sides, tree}
use Rattle.verdict.specs.declared.Refusal.{Refusal}
use Rattle.build.specs.declared.Columns.{Columns}
use Rattle.build.specs.declared.Built.{Built}

-- as they are lent, with no counts
abbrev pub lent : Columns → Tree
lent c = tree (shape 0 0 c.level.now c.start.now c.count.now c.entries.now) (sides c.x_lo.now c.x_hi.now c.y_lo.now c.y_hi.now) c.kits.now

-- a column that was lent, as it is handed back
abbrev pub Column : Type 0 → Type 0
Column A = MutBor (List A)

-- as they are afterwards, with no counts
abbrev pub left : Column ℕ × (Column ℕ × (Column ℕ × (Column ℤ × (Column ℤ × (Column ℤ × (Column ℤ × (Column ℕ × (Column ℕ × Unit {0})))))))) → Tree
left (level, (start, (count, (x_lo, (x_hi, (y_lo, (y_hi, (kits, (entries, _))))))))) =
    tree (shape 0 0 level.now start.now count.now entries.now) (sides x_lo.now x_hi.now y_lo.now y_hi.now) kits.now

-- the counts that the builder gives: all 0 in a refusal
abbrev pub counts : Result Built Refusal → ℕ × ℕ
counts (Ok b) = (b.nodes, b.listed)
counts (Err _) = (0, 0)

-- columns with the counts that it gives
abbrev pub counted : Result Built Refusal → Tree → Tree
counted r t = let s = t.shape in tree (shape (counts r).0 (counts r).1 s.level s.start s.count s.entries) t.sides t.kits

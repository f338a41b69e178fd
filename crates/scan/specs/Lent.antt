-- The columns that are lent for the places of a sheet, before and after, as a table; and what is written over their start.
-- Assumes nothing.
use Rattle.std.specs.Prelude.{ℕ, ℤ, ◌≤◌, List, ◌++◌, length, drop}
use Rattle.std.specs.Borrow.{MutBor}
use Rattle.table.specs.Table.{Table, table}
use Rattle.scan.specs.declared.Columns.{Columns}

-- as they are lent
abbrev pub lent : Columns → Table
lent c = table c.x.now c.y.now c.kit.now

-- as they are afterwards
abbrev pub left : MutBor (List ℤ) × (MutBor (List ℤ) × (MutBor (List ℕ) × Unit {0})) → Table
left (x, (y, (kit, _))) = table x.now y.now kit.now

-- each has room for so many places
abbrev pub Room : ℕ → Table → Type 0
Room n t = (n ≤ length t.x) × ((n ≤ length t.y) × (n ≤ length t.kit))

-- the rest keeps its contents
abbrev pub over : {A : Type 0} → List A → List A → List A
over used before = used ++ drop (length used) before

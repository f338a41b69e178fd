-- What the builder refuses, and what it leaves in the lent columns.
-- Assumes nothing.
use Rattle.std.specs.Prelude.{◌≡◌, ◌≤◌, List, [], ◌∷◌, ◌++◌, ℕ, zero, suc, length, drop}
use Rattle.std.proofs.Common.{lit≤}
use Rattle.table.specs.Table.{Table, places, table_rules}
use Rattle.tree.specs.Tree.{Tree}
use Rattle.tree.specs.Rules.{Room, dec_room}
use Rattle.tree.specs.declared.Lengths.{Lengths}
use Rattle.verdict.specs.Rules.{Rule}
use Rattle.levels.specs.Levels.{nodes, listed}
use Rattle.levels.specs.Built.{built}

-- the tree over a table needs k nodes and j entries
pub record Needs (t : Table) (k j : ℕ) : Type 0 where
  pub few : places t ≤ 4096
  pub nodes_is : k ≡ nodes (places t)
  pub listed_is : j ≡ listed (places t)

-- 41: no lent column is too short for the builder
abbrev pub rule41 : Table → Lengths → Rule
rule41 t l =
    let n = places t in
    record { code = 41; numbered = lit≤ tt; from = 0; many = 1; Asks = λ _. Room (nodes n) (listed n) l; decides = λ _. dec_room (nodes n) (listed n) l }

abbrev pub build_rules : Table → Lengths → List Rule
build_rules t l = table_rules t ++ rule41 t l ∷ []

-- a column with another written over its start: the rest keeps its contents
abbrev pub over : {A : Type 0} → List A → List A → List A
over used before = used ++ drop (length used) before

-- a tree written over lent columns
abbrev pub written_over : Tree → Tree → Tree
written_over new before = record {
  shape = record {
    nodes = new.shape.nodes;
    listed = new.shape.listed;
    level = over new.shape.level before.shape.level;
    start = over new.shape.start before.shape.start;
    count = over new.shape.count before.shape.count;
    entries = over new.shape.entries before.shape.entries;
  };
  sides = record {
    x_lo = over new.sides.x_lo before.sides.x_lo;
    x_hi = over new.sides.x_hi before.sides.x_hi;
    y_lo = over new.sides.y_lo before.sides.y_lo;
    y_hi = over new.sides.y_hi before.sides.y_hi;
  };
  kits = over new.kits before.kits;
}

-- the lent columns afterwards, by the refusal's number: in a refusal all is kept
abbrev pub afterwards : ℕ → Table → Tree → Tree
afterwards zero t before = written_over (built t) before
afterwards (suc code) t before = before

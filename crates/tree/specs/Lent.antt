-- What the contracts make of lent columns.
-- Assumes nothing.
use Rattle.std.specs.Prelude.{◌≡◌, Bool, true, false, cond, List, ℕ, ◌+◌, ◌-◌, ◌≤◌, ◌<◌, eqb, ℤ, length, get_or}
use Rattle.plane.specs.Run.{joined}
use Rattle.tree.specs.Tree.{Shape, Sides, Tree, Thing, thing}

-- the columns of a tree
abbrev pub shape : ℕ → ℕ → List ℕ → List ℕ → List ℕ → List ℕ → Shape
shape nodes listed level start count entries = record { nodes = nodes; listed = listed; level = level; start = start; count = count; entries = entries }

abbrev pub sides : List ℤ → List ℤ → List ℤ → List ℤ → Sides
sides x_lo x_hi y_lo y_hi = record { x_lo = x_lo; x_hi = x_hi; y_lo = y_lo; y_hi = y_hi }

abbrev pub tree : Shape → Sides → List ℕ → Tree
tree s b kits = record { shape = s; sides = b; kits = kits }

-- r says whether P
pub record Decides (r : Bool) (P : Type 0) : Type 0 where
  pub holds : r ≡ true → P
  pub fails : r ≡ false → P → ⊥

-- what rule 21 leaves known of the columns of levels and runs
pub record Columns (s : Shape) : Type 0 where
  pub few : s.nodes ≤ 2048
  pub level : s.nodes ≤ length s.level
  pub start : s.nodes ≤ length s.start
  pub count : s.nodes ≤ length s.count
  pub entries : s.listed ≤ length s.entries

-- from the run of n, which ends at e, to that of index i: the next where i is the end
abbrev pub moved : ℕ → ℕ → ℕ → ℕ
moved e n i = cond (eqb i e) (n + 1) n

-- a run of entries that stand in the list and are below n
pub record InRun (n : ℕ) (entries : List ℕ) (from count : ℕ) : Type 0 where
  pub some : 1 ≤ count
  pub inside : from + count ≤ length entries
  pub known : (i : ℕ) → from ≤ i → i < from + count → get_or entries i 0 < n

-- what f says of the entries of a run, joined: they are places for a leaf, nodes for another
abbrev pub run_says : {A : Type 0} → (A → A → A) → (Thing → A) → Bool → List ℕ → ℕ → ℕ → A
run_says op f leaf entries from count = joined op (λ i. f (thing leaf (get_or entries i 0))) from (count - 1)

-- each thing has a mark of its own: places first, then nodes
abbrev pub mark_of : Bool → ℕ → ℕ
mark_of leaf e = cond leaf e (4096 + e)

-- A tree over a table of places, as its columns say it.
-- Assumes nothing.
use Rattle.std.specs.Prelude.{Bool, true, false, List, ℕ, zero, suc, ◌+◌, ◌-◌, ◌≤◌, ◌<◌, eqb, ℤ, pos, get_or}
use Rattle.std.proofs.Math.Decide.{dec_le}
use Rattle.plane.specs.Plane.{span, box}
use Rattle.plane.specs.Run.{joined}
use Rattle.plane.specs.declared.Box.{Box}
use Rattle.table.specs.Table.{Table}
use Rattle.table.specs.Table as table
use Rattle.verdict.specs.First.{first_not}

-- the node count, the entry count, the nodes' levels and runs, and the entry list; a column may be longer than its count says
pub record Shape : Type 0 where
  pub nodes : ℕ
  pub listed : ℕ
  pub level : List ℕ
  pub start : List ℕ
  pub count : List ℕ
  pub entries : List ℕ

-- the boxes of the nodes: least and greatest x and y
pub record Sides : Type 0 where
  pub x_lo : List ℤ
  pub x_hi : List ℤ
  pub y_lo : List ℤ
  pub y_hi : List ℤ

-- a tree: its shape, its boxes, its kit words
pub record Tree : Type 0 where
  pub shape : Shape
  pub sides : Sides
  pub kits : List ℕ

module _ (s : Shape) where
  abbrev pub level_of : ℕ → ℕ
  level_of n = get_or s.level n 0

  abbrev pub start_of : ℕ → ℕ
  start_of n = get_or s.start n 0

  abbrev pub count_of : ℕ → ℕ
  count_of n = get_or s.count n 0

  -- where the run of n ends
  abbrev pub end_of : ℕ → ℕ
  end_of n = start_of n + count_of n

  -- where the run of n is due to start: at 0, and then where the one before ends
  abbrev pub due : ℕ → ℕ
  due zero = 0
  due (suc n) = end_of n

  -- the node in whose run the list index i stands: the lowest whose run does not end at or before i
  unfoldable pub owner : ℕ → ℕ
  unfolding first_not dec_le
  owner i = first_not (λ n. dec_le (end_of n) i) 0 s.nodes

-- the list index i stands in the run of node n
pub record Stands (s : Shape) (i n : ℕ) : Type 0 where
  pub node : n < s.nodes
  pub low : start_of s n ≤ i
  pub high : i < end_of s n

-- what an entry names: a place or a node
pub data Thing : Type 0 where
  place : ℕ → Thing
  node : ℕ → Thing
  deriving Discrete as Thing-discrete

-- an entry of a node of level 1 is a place, of any other a node
abbrev pub thing : Bool → ℕ → Thing
thing true e = place e
thing false e = node e

-- what stands at the list index i
abbrev pub named : Shape → ℕ → Thing
named s i = thing (eqb (level_of s (owner s i)) 1) (get_or s.entries i 0)

-- the level of a thing; a place has level 0
abbrev pub level : Shape → Thing → ℕ
level s (place p) = 0
level s (node n) = level_of s n

-- the box of a node; a place's is its point
abbrev pub box_at : Sides → ℕ → Box
box_at b n = box (span (get_or b.x_lo n (pos 0)) (get_or b.x_hi n (pos 0))) (span (get_or b.y_lo n (pos 0)) (get_or b.y_hi n (pos 0)))

-- what columns for places and for nodes say of a thing
abbrev pub by_sort : {A : Type 0} → (ℕ → A) → (ℕ → A) → Thing → A
by_sort places nodes (place p) = places p
by_sort places nodes (node n) = nodes n

abbrev pub box_of : Table → Sides → Thing → Box
box_of t b = by_sort (table.box_of t) (box_at b)

-- the kit word of a thing
abbrev pub kit_of : Table → List ℕ → Thing → ℕ
kit_of t kits = by_sort (table.kit_of t) (λ n. get_or kits n 0)

-- what f says of the entries of n's run, joined
abbrev pub joined_run : {A : Type 0} → (A → A → A) → (Thing → A) → Shape → ℕ → A
joined_run op f s n = joined op (λ i. f (named s i)) (start_of s n) (count_of s n - 1)

-- y is x, or is named in the run of x, or in the run of a node that is, and so on: the chain of runs from x down to y
pub data Below (s : Shape) (y : Thing) : Thing → Type 0 where
  here : Below s y y
  through : (n i : ℕ) → Stands s i n → Below s y (named s i) → Below s y (node n)

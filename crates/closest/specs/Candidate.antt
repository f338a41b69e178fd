-- Candidates: lists of things, one for each wanted kind.
-- Assumes nothing.
use Rattle.std.specs.Prelude.{Bool, true, false, List, [], ◌∷◌, map, ℕ, suc, ◌+◌, ◌<◌, ltb, eqb, get_or, set}
use Rattle.std.proofs.Math.Option.{Option, none, some}
use Rattle.order.specs.Tab.{tab}
use Rattle.plane.specs.declared.Box.{Box}
use Rattle.tree.specs.Tree.{Shape, level_of, start_of, count_of, Thing, place, node, thing, level}
use Rattle.walks.specs.Walk.{Scene}
use Rattle.closest.specs.Group.{spread}

-- the number of a place or a node
abbrev pub number : Thing → ℕ
number (place p) = p
number (node n) = n

-- a thing that there is: one of p places, or a node
abbrev pub Good : ℕ → Shape → Thing → Type 0
Good p s (place q) = q < p
Good p s (node n) = n < s.nodes

-- entry k of the run of node n, and all its entries, in run order; a place has none
abbrev pub entry : Shape → ℕ → ℕ → Thing
entry s n k = thing (eqb (level_of s n) 1) (get_or s.entries (start_of s n + k) 0)

unfoldable pub entries_of : Shape → Thing → List Thing
entries_of s (place p) = []
entries_of s (node n) = tab (entry s n) (count_of s n)

-- member i of a candidate
abbrev pub member : List Thing → ℕ → Thing
member c i = get_or c i (place 0)

-- the leftmost of the highest level, where index i of level v leads so far and the rest begins at index j
unfoldable pub lead : Shape → ℕ → ℕ → ℕ → List Thing → ℕ
lead s i v j [] = i
lead s i v j (x ∷ c) = elim (ltb v (level s x)) [ true ↦ lead s j (level s x) (suc j) c | false ↦ lead s i v (suc j) c ]

unfoldable pub topmost : Shape → List Thing → ℕ
topmost s c = lead s 0 0 0 c

-- the sum of the members' levels
unfoldable pub levels : Shape → List Thing → ℕ
levels s [] = 0
levels s (x ∷ c) = level s x + levels s c

-- step 2: if all are places, that is if the topmost is, a candidate is a group
unfoldable pub group_of : Shape → List Thing → Option (List ℕ)
group_of s c = elim (eqb (level s (member c (topmost s c))) 0) [ true ↦ some (map number c) | false ↦ none ]

-- a candidate with member i replaced by each of some things for which a test holds
unfoldable pub replaced : (Thing → Bool) → List Thing → ℕ → List Thing → List (List Thing)
replaced holds c i [] = []
replaced holds c i (y ∷ l) = elim (holds y) [ true ↦ set c i y ∷ replaced holds c i l | false ↦ replaced holds c i l ]

-- step 3: the topmost member replaced by each of its entries that holds that member's kind, in run order
unfoldable pub opened : Shape → (ℕ → Thing → Bool) → List ℕ → List Thing → List (List Thing)
opened s holds kinds c = let i = topmost s c in replaced (holds (get_or kinds i 0)) c i (entries_of s (member c i))

abbrev pub scene : Shape → (ℕ → Thing → Bool) → List ℕ → Scene (List Thing) (List ℕ)
scene s holds kinds = record { group = group_of s; below = opened s holds kinds }

-- the boxes of a candidate, each in the place of its kind
unfoldable pub boxes_in : (ℕ → Thing → Box) → List ℕ → List Thing → List Box
boxes_in box [] c = []
boxes_in box (k ∷ kinds) [] = []
boxes_in box (k ∷ kinds) (x ∷ c) = box k x ∷ boxes_in box kinds c

-- step 1: some two members lie at a squared distance strictly above d
unfoldable pub too_far : (ℕ → Thing → Box) → List ℕ → List Thing → ℕ → Bool
too_far box kinds c d = ltb d (spread (boxes_in box kinds c))

-- The answer to a want over a table, with no tree; and how a search that is not refused ends over a tree.
-- Assumes nothing.
use Rattle.std.specs.Prelude.{◌≡◌, true, false, List, [], ◌⊎◌, ℕ, ◌≤◌, ◌<◌, pos, length, get_or, take, replicate}
use Rattle.std.proofs.Math.Option.{Option, none, some}
use Rattle.plane.specs.Plane.{squared_of}
use Rattle.kit.specs.Kit.{kinds, padded}
use Rattle.table.specs.Table.{Table}
use Rattle.tree.specs.Tree.{Tree}
use Rattle.walks.specs.Order.{before}
use Rattle.walks.specs.Walk.{final}
use Rattle.closest.specs.Group.{Covers, diameter}
use Rattle.closest.specs.Walk.{whole_walk, begins}
use Rattle.found.specs.Search.{refused}
use Rattle.found.specs.declared.Found.{Found}

-- the squared distance of two places
abbrev pub between : Table → ℕ → ℕ → ℕ
between t p q = squared_of (get_or t.x p (pos 0)) (get_or t.y p (pos 0)) (get_or t.x q (pos 0)) (get_or t.y q (pos 0))

-- g is the answer: a group for the want, no group has a less squared diameter, and of those with the same none is earlier in dictionary order
pub record Closest (t : Table) (want : ℕ) (g : List ℕ) : Type 0 where
  pub covers : Covers t (kinds want) g
  pub least : (o : List ℕ) → Covers t (kinds want) o → diameter t g ≤ diameter t o
  pub first : (o : List ℕ) → Covers t (kinds want) o → diameter t o ≡ diameter t g → before o g ≡ false

-- there is no group for the want
abbrev pub NoGroup : Table → ℕ → Type 0
NoGroup t want = (g : List ℕ) → Covers t (kinds want) g → ⊥

-- the walk of a want: the best group known after each of its steps. It has no step where the root lacks a wanted kind, or there is no node
unfoldable pub walk_of : Table → Tree → ℕ → List (Option (List ℕ))
walk_of t tree want = elim (begins t tree (kinds want)) [ true ↦ whole_walk t tree (kinds want) | false ↦ [] ]

abbrev pub steps_of : Table → Tree → ℕ → ℕ
steps_of t tree want = length (walk_of t tree want)

-- the best known after so many steps
abbrev pub known_after : Table → Tree → ℕ → ℕ → Option (List ℕ)
known_after t tree want steps = final none (take steps (walk_of t tree want))

-- a group is found: its places, with unused numbers 0, and its squared diameter
abbrev pub found : Table → List ℕ → ℕ → Found
found t g steps = record { code = 0; at = 0; places = padded g; squared = diameter t g; steps = steps; known = true }

-- spent, with the group known then, if one is
abbrev pub spent : Table → Option (List ℕ) → ℕ → Found
spent t none steps = record { code = 32; at = 0; places = replicate 8 0; squared = 0; steps = steps; known = false }
spent t (some g) steps = record { code = 32; at = 0; places = padded g; squared = diameter t g; steps = steps; known = true }

-- 'found', 'none' or 'spent', by the number
abbrev pub Ended : ℕ → Type 0
Ended code = (code ≡ 0) ⊎ ((code ≡ 31) ⊎ (code ≡ 32))

-- the three ways in which a search ends that is not refused
pub data Ends (t : Table) (tree : Tree) (want allowance : ℕ) (r : Found) : Type 0 where
  is_none : NoGroup t want → steps_of t tree want ≡ 0 → r ≡ refused 31 0 → Ends t tree want allowance r
  is_spent : allowance < steps_of t tree want → r ≡ spent t (known_after t tree want allowance) allowance → Ends t tree want allowance r
  is_found : (g : List ℕ) → Closest t want g → steps_of t tree want ≤ allowance → r ≡ found t g (steps_of t tree want) → Ends t tree want allowance r

-- Groups of places, and the answer to a want: the m-closest-keywords problem. No tree plays a part.
-- Assumes nothing.
use Rattle.std.specs.Prelude.{◌≡◌, Bool, true, List, [], ◌∷◌, map, ℕ, ◌<◌, max, length, get_or}
use Rattle.std.proofs.Math.Option.{Option}
use Rattle.kit.specs.Kit.{held}
use Rattle.plane.specs.Plane.{apart}
use Rattle.plane.specs.declared.Box.{Box}
use Rattle.table.specs.Table.{Table, places, box_of, kit_of}
use Rattle.walks.specs.Best.{BestOf}
use Rattle.walks.specs.Order.{first_by, before}

-- g is a group for the kinds: for each of them the number of a place that holds it
pub record Covers (t : Table) (kinds g : List ℕ) : Type 0 where
  pub size : length g ≡ length kinds
  pub place : (i : ℕ) → i < length kinds → get_or g i 0 < places t
  pub holds : (i : ℕ) → i < length kinds → held (kit_of t (get_or g i 0)) (get_or kinds i 0) ≡ true

-- the largest squared distance from a box to any of a list
unfoldable pub farthest : Box → List Box → ℕ
farthest b [] = 0
farthest b (c ∷ l) = max (apart b c) (farthest b l)

-- the largest squared distance of any two of a list; 0 where there are no two
unfoldable pub spread : List Box → ℕ
spread [] = 0
spread (b ∷ l) = max (farthest b l) (spread l)

-- a group's squared diameter
unfoldable pub diameter : Table → List ℕ → ℕ
diameter t g = spread (map (box_of t) g)

-- the better of two groups: the one with less squared diameter, among equals the first in dictionary order
abbrev pub better : Table → List ℕ → List ℕ → Bool
better t = first_by (diameter t) before

-- the answer: a group than which no group for the kinds is better, or none where there is no group
abbrev pub IsAnswer : Table → List ℕ → Option (List ℕ) → Type 0
IsAnswer t kinds = BestOf (better t) (Covers t kinds)

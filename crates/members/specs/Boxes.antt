-- Boxes in columns of sides, one left out, and a distance that is known up to a limit.
-- Assumes nothing.
use Rattle.std.specs.Prelude.{◌≡◌, cond, List, [], ◌∷◌, ℕ, zero, suc, ◌+◌, ◌≤◌, ◌<◌, ltb}
use Rattle.plane.specs.Plane.{Ranged}
use Rattle.plane.specs.declared.Box.{Box}
use Rattle.order.specs.Tab.{tab}
use Rattle.tree.specs.Tree.{Sides, box_at}

-- the boxes that eight sides of each direction make
abbrev pub boxes_at : Sides → List Box
boxes_at b = tab (box_at b) 8

-- the sides of every box of a list are in range
abbrev pub AllRanged : List Box → Type 0
AllRanged [] = Unit {0}
AllRanged (b ∷ l) = Ranged b × AllRanged l

-- a list without its element i
unfoldable pub without : {A : Type 0} → ℕ → List A → List A
without i [] = []
without zero (a ∷ l) = l
without (suc i) (a ∷ l) = a ∷ without i l

-- where element k of a list without its element i stands in the whole list
abbrev pub skip : ℕ → ℕ → ℕ
skip i k = cond (ltb k i) k (k + 1)

-- r is d, or both are above the limit
pub record UpTo (limit d r : ℕ) : Type 0 where
  pub near : r ≤ limit → r ≡ d
  pub far : limit < r → limit < d

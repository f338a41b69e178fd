-- Boxes that lie in others are spread at least as far.
-- Assumes nothing.
use mathlib.Core.List.{List, [], ◌∷◌}
use Prim.Native.Nat.{◌≤◌}
use native.Mathlib.Omega.{arith}
use Rattle.plane.specs.Plane.{Within}
use Rattle.plane.specs.declared.Box.{Box}
use Rattle.plane.proofs.BoxLaws.{apart_within}
use Rattle.closest.specs.Group.{farthest, spread}

-- each box of k lies in its mate of l
abbrev pub Mates : List Box → List Box → Type 0
Mates [] [] = Unit {0}
Mates [] (c ∷ k) = ⊥
Mates (b ∷ l) [] = ⊥
Mates (b ∷ l) (c ∷ k) = Within c b × Mates l k

farthest_grows : (b c : Box) → Within c b → (l k : List Box) → Mates l k → farthest b l ≤ farthest c k
unfolding farthest
farthest_grows b c w [] k m = omega arith
farthest_grows b c w (x ∷ l) [] m = absurd m
farthest_grows b c w (x ∷ l) (y ∷ k) m = omega (arith, apart_within b x c y w m.0, farthest_grows b c w l k m.1)

pub spread_grows : (l k : List Box) → Mates l k → spread l ≤ spread k
unfolding spread
spread_grows [] k m = omega arith
spread_grows (x ∷ l) [] m = absurd m
spread_grows (x ∷ l) (y ∷ k) m = omega (arith, farthest_grows x y m.0 l k m.1, spread_grows l k m.1)

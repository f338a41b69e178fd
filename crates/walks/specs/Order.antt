-- Comparisons of groups: a measure first, then dictionary order.
-- Assumes nothing.
use Rattle.std.specs.Prelude.{◌≡◌, Bool, true, false, List, [], ◌∷◌, ℕ, ltb}

-- a strict total order, as a test
pub record Order {G : Type 0} (better : G → G → Bool) : Type 0 where
  pub irrefl : (g : G) → better g g ≡ false
  pub trans : (g h i : G) → better g h ≡ true → better h i ≡ true → better g i ≡ true
  pub total : (g h : G) → better g h ≡ false → better h g ≡ false → g ≡ h

-- less by f, and among equals by rest
unfoldable pub first_by : {G : Type 0} → (G → ℕ) → (G → G → Bool) → G → G → Bool
first_by f rest g h = elim (ltb (f g) (f h)) [ true ↦ true | false ↦ elim (ltb (f h) (f g)) [ true ↦ false | false ↦ rest g h ] ]

-- dictionary order
unfoldable pub before : List ℕ → List ℕ → Bool
before [] [] = false
before [] (b ∷ l) = true
before (a ∷ k) [] = false
before (a ∷ k) (b ∷ l) = elim (ltb a b) [ true ↦ true | false ↦ elim (ltb b a) [ true ↦ false | false ↦ before k l ] ]

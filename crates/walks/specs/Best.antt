-- The best of some groups, and a memory of the best group met.
-- Assumes nothing.
use Rattle.std.specs.Prelude.{◌≡◌, Bool, true, false, ℕ}
use Rattle.std.proofs.Math.Option.{Option, none, some}
use Rattle.walks.specs.Walk.{Memory}

module _ {G : Type 0} (better : G → G → Bool) where
  -- k is the best of the groups that are P: none where there is none, else one than which none is better
  abbrev pub BestOf : (G → Type 0) → Option G → Type 0
  BestOf P none = (g : G) → P g → ⊥
  BestOf P (some b) = P b × ((g : G) → P g → better g b ≡ false)

  -- a group becomes the best if it is better
  unfoldable pub improve : Option G → G → Option G
  improve none g = some g
  improve (some b) g = elim (better g b) [ true ↦ some g | false ↦ some b ]

-- the bound is the best's square
abbrev pub bound_by : {G : Type 0} → (G → ℕ) → Option G → Option ℕ
bound_by square none = none
bound_by square (some b) = some (square b)

abbrev pub best : {G : Type 0} → (G → G → Bool) → (G → ℕ) → Memory G (Option G)
best better square = record { bound = bound_by square; learn = improve better }

-- Steps against an allowance: where a walk stands when it stops.
-- Assumes nothing.
use Rattle.std.specs.Prelude.{Bool, true, false, List, [], ◌∷◌, ℕ, ◌+◌, ltb, length, take}
use Rattle.walks.specs.Walk.{final}

-- the steps taken, whether one more was due, and what was known then
pub record Stand (K : Type 0) : Type 0 where
  pub steps : ℕ
  pub spent : Bool
  pub known : K

abbrev pub stand : {K : Type 0} → ℕ → Bool → K → Stand K
stand steps spent known = record { steps = steps; spent = spent; known = known }

-- the whole walk if the allowance covers it, else spent after as many steps as the allowance has
unfoldable pub stopped : {K : Type 0} → ℕ → List K → K → Stand K
stopped allowance walk k =
    elim (ltb allowance (length walk)) [
      | true ↦ stand allowance true (final k (take allowance walk))
      | false ↦ stand (length walk) false (final k walk)
    ]

-- the same step by step: one step, after which k is known
unfoldable pub step : {K : Type 0} → ℕ → K → Stand K → Stand K
step allowance k s =
    elim s.spent [
      | true ↦ s
      | false ↦ elim (ltb s.steps allowance) [ true ↦ stand (s.steps + 1) false k | false ↦ stand s.steps true s.known ]
    ]

unfoldable pub advance : {K : Type 0} → ℕ → List K → Stand K → Stand K
advance allowance [] s = s
advance allowance (k ∷ walk) s = advance allowance walk (step allowance k s)

-- What a loop over the list indices of a run makes of its join, for any operation.
-- Assumes nothing.
use Rattle.std.proofs.Common.{◌≡◌, ap, ◌∙◌, ℕ, suc, ◌+◌, ◌-◌, ◌≤◌, arith}
use Rattle.plane.specs.Run.{joined}

module _ {A : Type 0} (op : A → A → A) (f : ℕ → A) (from : ℕ) where
  pub joined_first : f from ≡ joined op f from (from + 1 - from - 1)
  unfolding joined
  joined_first = let none : 0 ≡ from + 1 - from - 1 = omega arith in ap (joined op f from) none

  pub joined_next : (i : ℕ) → from + 1 ≤ i → op (joined op f from (i - from - 1)) (f i) ≡ joined op f from (i + 1 - from - 1)
  unfolding joined
  joined_next i l =
      let here : i ≡ from + suc (i - from - 1) = omega arith in
      let more : suc (i - from - 1) ≡ i + 1 - from - 1 = omega arith in
      ap (λ (j : ℕ). op (joined op f from (i - from - 1)) (f j)) here ∙ ap (joined op f from) more

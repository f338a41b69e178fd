-- The lowest place at which something asked fails.
-- Assumes nothing.
use Rattle.std.specs.Prelude.{◌≡◌}
use Rattle.std.proofs.Common.{sym, subst, ⊎_elim, eq-or-lt_of_le, le_of_suc-le-suc, not-suc-le-zero, arith}
use Prim.Native.Nat.{ℕ, zero, suc, ◌<◌}

module _ {Asks : ℕ → Type 0} (decides : (k : ℕ) → Dec (Asks k)) where
  -- of `many` places from `from` on, the lowest at which what is asked fails; from + many where it fails at none
  unfoldable pub first_not : ℕ → ℕ → ℕ
  first_not from zero = from
  first_not from (suc many) = elim (decides from) [ yes _ ↦ first_not (suc from) many | no _ ↦ from ]

  one_more : (n : ℕ) → Dec ((k : ℕ) → k < n → Asks k) → Dec (Asks n) → Dec ((k : ℕ) → k < suc n → Asks k)
  one_more n (no h) e = no (λ f. h (λ k b. f k (omega arith)))
  one_more n (yes f) (no h) = no (λ g. h (g n (omega arith)))
  one_more n (yes f) (yes p) = yes (λ k b. ⊎_elim (λ (e : k ≡ n). subst Asks (sym e) p) (λ (l : k < n). f k l) (eq-or-lt_of_le (le_of_suc-le-suc b)))

  -- whether what is asked holds at every place below n
  unfoldable pub dec_all : (n : ℕ) → Dec ((k : ℕ) → k < n → Asks k)
  unfolding one_more
  dec_all zero = yes (λ k b. absurd (not-suc-le-zero b))
  dec_all (suc n) = one_more n (dec_all n) (decides n)

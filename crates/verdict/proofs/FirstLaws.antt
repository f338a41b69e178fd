-- `first_not` gives the lowest place at which what is asked fails, and no other number is that.
-- Assumes nothing.
use Prim.Native.Nat.{ℕ, zero, suc, ◌+◌, ◌≤◌, ◌<◌}
use mathlib.Core.Path.{◌≡◌, subst}
use mathlib.Core.Logic.{⊎_elim}
use native.Mathlib.Nat.{eq-or-lt_of_le}
use native.Mathlib.Decide.{dec_lt}
use native.Mathlib.Omega.{arith}
use Rattle.verdict.specs.First.{first_not}

-- r is the lowest of `many` places from `from` on at which what is asked fails; from + many where it fails at none
pub record First (Asks : ℕ → Type 0) (from many r : ℕ) : Type 0 where
  pub above : from ≤ r
  pub within : r ≤ from + many
  pub before : (k : ℕ) → from ≤ k → k < r → Asks k
  pub fails : r < from + many → Asks r → ⊥

module _ {Asks : ℕ → Type 0} where
  pub first_unique : {from many r s : ℕ} → First Asks from many r → First Asks from many s → r ≡ s
  first_unique {from} {many} {r} {s} f g = go (dec_lt r s) (dec_lt s r)
    where
      go : Dec (r < s) → Dec (s < r) → r ≡ s
      go (yes h) e = absurd (f.fails (omega (arith, g.within)) (g.before r f.above h))
      go (no h) (yes k) = absurd (g.fails (omega (arith, f.within)) (f.before s g.above k))
      go (no h) (no k) = omega arith

  -- where it fails at none
  pub first_none : (from many : ℕ) → ((k : ℕ) → from ≤ k → k < from + many → Asks k) → First Asks from many (from + many)
  first_none from many all = record { above = omega arith; within = omega arith; before = all; fails = λ b. omega arith }

module _ {Asks : ℕ → Type 0} (decides : (k : ℕ) → Dec (Asks k)) where
  step : (from many : ℕ) → First Asks (suc from) many (first_not decides (suc from) many) → (e : Dec (Asks from)) →
      First Asks from (suc many) (elim e [ yes _ ↦ first_not decides (suc from) many | no _ ↦ from ])
  step from many f (yes p) = record {
    above = omega (arith, f.above);
    within = omega (arith, f.within);
    before = λ k a b. ⊎_elim (λ (e : from ≡ k). subst Asks e p) (λ (l : from < k). f.before k l b) (eq-or-lt_of_le a);
    fails = λ b. f.fails (omega arith);
  }
  step from many f (no h) = record { above = omega arith; within = omega arith; before = λ k a b. absurd (omega arith); fails = λ b. h }

  pub first_found : (from many : ℕ) → First Asks from many (first_not decides from many)
  unfolding first_not
  first_found from zero = record { above = omega arith; within = omega arith; before = λ k a b. absurd (omega arith); fails = λ b. omega arith }
  first_found from (suc many) = step from many (first_found (suc from) many) (decides from)

  pub first_is : (from many r : ℕ) → First Asks from many r → first_not decides from many ≡ r
  first_is from many r f = first_unique (first_found from many) f

  -- where it is the end, nothing fails
  pub first_all : (from many : ℕ) → from + many ≤ first_not decides from many → (k : ℕ) → from ≤ k → k < from + many → Asks k
  first_all from many h k a b = (first_found from many).before k a (omega arith)

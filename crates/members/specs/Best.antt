-- The best group known, as the code has it, and a step against the allowance.
-- Assumes nothing.
use Rattle.std.specs.Prelude.{◌≡◌, Bool, true, false, cond, List, ℕ, ◌+◌, ◌≤◌, ◌<◌, ltb}
use Rattle.walks.specs.Order.{before}
use Rattle.members.specs.declared.Best.{Best}

-- whether a group is known, its squared diameter and its places
abbrev pub best_at : Bool → ℕ → List ℕ → Best
best_at known squared places = record { known = known; squared = squared; places = places }

-- the square above which a candidate is dropped; while no group is known, the largest number, which is above none
abbrev pub limit_of : Bool → ℕ → ℕ
limit_of known squared = cond known squared 18446744073709551615

-- a squared distance for which the best does not drop a candidate
abbrev pub near : Bool → ℕ → ℕ → Bool
near known squared d = cond known (cond (ltb squared d) false true) true

-- a group of a squared diameter becomes the best if it is better
unfoldable pub improved : List ℕ → ℕ → Best → Best
improved places squared b =
    elim b.known [
      | false ↦ record { known = true; squared = squared; places = places }
      | true ↦ elim (ltb squared b.squared) [
        | true ↦ record { known = true; squared = squared; places = places }
        | false ↦ elim (ltb b.squared squared) [
          | true ↦ b
          | false ↦ elim (before places b.places) [ true ↦ record { known = true; squared = squared; places = places } | false ↦ b ]
        ]
      ]
    ]

-- r says whether there was a step left, which is then taken
pub record Stepped (allowance before : ℕ) (r : Bool) (after : ℕ) : Type 0 where
  pub some : r ≡ true → (before < allowance) × (after ≡ before + 1)
  pub none : r ≡ false → (allowance ≤ before) × (after ≡ before)

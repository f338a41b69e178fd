-- The distance shown is the whole-number root of every 64-bit number.
-- Assumes nothing.
use mathlib.Core.Path.{◌≡◌, subst}
use Prim.Native.Nat.{ℕ, zero, suc, ◌*◌, ◌/◌, ◌^◌, ◌≤◌, ◌<◌}
use native.Mathlib.Decide.{dec_le}
use native.Mathlib.Nat.{mul-mul-mul_comm, div-lt_iff_lt-mul, le-div_iff_mul-le, pow-suc, mul-le-mul}
use native.Mathlib.Omega.{arith}
use Rattle.plane.specs.Root.{Root}
use Rattle.report.specs.Distance.{greater, root_in, root_of}

twice : (r : ℕ) → 2 * r * (2 * r) ≡ 4 * (r * r)
twice r = mul-mul-mul_comm 2 r 2 r

small : (s : ℕ) → s * s ≤ 0 → s ≤ 0
small zero h = omega arith
small (suc s) h = absurd (omega (arith, mul-le-mul {n₁ = 1} {m₁ = 1} {n₂ = suc s} {m₂ = suc s} (omega arith) (omega arith)))

-- the root of n from that of its quarter
module _ (n r : ℕ) (h : Root (n / 4) r) where
  not_above : 2 * r * (2 * r) ≤ n
  not_above = omega (arith, twice r, h.not_above)

  most : (s : ℕ) → s * s ≤ n → s ≤ suc (2 * r)
  most s k =
      let half : 2 * (s / 2) * (2 * (s / 2)) ≤ s * s = mul-le-mul (omega arith) (omega arith) in
      omega (arith, h.greatest (s / 2) ((le-div_iff_mul-le {k = 4} {x = s / 2 * (s / 2)} {y = n} (omega arith)).1 (omega (arith, half, twice (s / 2)))))

  from_quarter : Root n (greater n (2 * r))
  from_quarter = go (dec_le (suc (2 * r) * suc (2 * r)) n)
    where
      go : (d : Dec (suc (2 * r) * suc (2 * r) ≤ n)) → Root n (elim d [ yes _ ↦ suc (2 * r) | no _ ↦ 2 * r ])
      go (yes l) = record { not_above = l; greatest = most }
      go (no l) = record { not_above = not_above; greatest = λ s k. below s k (dec_le s (2 * r)) }
        where
          below : (s : ℕ) → s * s ≤ n → Dec (s ≤ 2 * r) → s ≤ 2 * r
          below s k (yes e) = e
          below s k (no e) = let q : s ≡ suc (2 * r) = omega (arith, most s k) in absurd (l (subst (λ (m : ℕ). m * m ≤ n) q k))

root_in_lem : (k n : ℕ) → n < 4 ^ k → Root n (root_in k n)
unfolding root_in
root_in_lem zero n h = let e : n ≡ 0 = omega arith in record { not_above = omega arith; greatest = λ s l. small s (omega arith) }
root_in_lem (suc k) n h = from_quarter n (root_in k (n / 4)) (root_in_lem k (n / 4) ((div-lt_iff_lt-mul (omega arith)).1 (subst (λ (m : ℕ). n < m) (pow-suc 4 k) h)))

pub root_of_lem : (n : ℕ) → n < 2 ^ 64 → Root n (root_of n)
unfolding root_of
root_of_lem n h = root_in_lem 32 n h

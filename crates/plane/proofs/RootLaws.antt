-- Laws of the whole-number root.
-- Assumes nothing.
use mathlib.Core.Path.{◌≡◌}
use Prim.Native.Nat.{ℕ, ◌+◌, ◌*◌, ◌≤◌, ◌<◌}
use native.Mathlib.Nat.{not-le_of_lt, lt_of_not-le}
use native.Mathlib.Omega.{arith}
use Rattle.plane.specs.Root.{Root}
use Rattle.plane.proofs.WholeLaws.{square_le}

-- each number has one root
pub root_unique : {n r s : ℕ} → Root n r → Root n s → r ≡ s
root_unique {r = r} {s = s} h k = omega (arith, h.greatest s k.not_above, k.greatest r h.not_above)

-- a square below another is of a number below
pub root_below : (a b : ℕ) → a * a < b * b → a < b
root_below a b h = lt_of_not-le (λ (k : b ≤ a). not-le_of_lt h (square_le b a k))

-- n lies between the squares of its root and of the next number
pub root_between : {n r : ℕ} → r * r ≤ n → n < (r + 1) * (r + 1) → Root n r
root_between {n} {r} h k = record { not_above = h; greatest = λ s l. omega (arith, root_below s (r + 1) (omega arith)) }

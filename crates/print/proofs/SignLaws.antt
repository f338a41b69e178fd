-- The text of a number with its sign, by whether it is below 0.
-- Assumes nothing.
use Rattle.std.proofs.Common.{ℕ, suc, ◌+◌, ◌≤◌, ◌≡◌, ◌∙◌, refl, ap, true, false, ◌∷◌, length, ℤ, pos, negsuc, arith}
use borrow.Author.Tests.{ltb-true, le-ltb}
use lib.IntN.{nat_abs}
use lib.Signed.{lt_z}
use mir.Syntax.{w32}
use mir.Val.{SFits, bool_byte, to_z, of_z}
use mir.Facts.{to_z-of_z}
use Rattle.lines.specs.Text.{decimal, signed, width}
use Rattle.lines.proofs.NumberLaws.{decimal_length}

-- an i32 as an argument of a call is the i32
pub passed : {z : ℤ} {r : ℕ} → SFits w32 z → r ≡ nat_abs (to_z w32 (of_z w32 z)) → r ≡ nat_abs z
passed f e = e ∙ ap nat_abs (to_z-of_z f)

pub signed_below : {z : ℤ} → SFits w32 z → lt_z (to_z w32 (of_z w32 z)) (pos 0) ≡ true → signed z ≡ 45 ∷ decimal (nat_abs z)
unfolding signed
signed_below {z} f e = go z (rw (to_z-of_z f) at e)
  where
    go : (z : ℤ) → lt_z z (pos 0) ≡ true → signed z ≡ 45 ∷ decimal (nat_abs z)
    go (pos n) e = absurd (omega (arith, ltb-true n 0 e))
    go (negsuc n) e = refl

pub signed_above : {z : ℤ} → SFits w32 z → lt_z (to_z w32 (of_z w32 z)) (pos 0) ≡ false → signed z ≡ decimal (nat_abs z)
unfolding signed
signed_above {z} f e = go z (rw (to_z-of_z f) at e)
  where
    go : (z : ℤ) → lt_z z (pos 0) ≡ false → signed z ≡ decimal (nat_abs z)
    go (pos n) e = refl
    go (negsuc n) e = cc

-- a minus is one byte more
pub signed_length : {z : ℤ} → SFits w32 z → let minus = bool_byte (lt_z (to_z w32 (of_z w32 z)) (pos 0)) in (length (signed z) ≡ minus + width (nat_abs z)) × (minus ≤ 1)
unfolding signed
signed_length {z} f = rw (to_z-of_z f) (go z)
  where
    go : (z : ℤ) → let minus = bool_byte (lt_z z (pos 0)) in (length (signed z) ≡ minus + width (nat_abs z)) × (minus ≤ 1)
    go (pos n) = rw (le-ltb n 0 (omega arith)) (omega (arith, decimal_length n), omega arith)
    go (negsuc n) = (omega (arith, decimal_length (suc n)), omega arith)

-- Signed machine numbers: a signed local holds the integer that was put there, and a difference of two i32 fits an i64.
-- Assumes nothing.
use mathlib.Core.Path.{◌≡◌, refl, sym, ap, ◌∙◌}
use mathlib.Core.Bool.{true, false}
use Prim.Native.Nat.{◌+◌, ◌*◌, ◌^◌, ◌≤◌, ◌<◌}
use native.Mathlib.Omega.{arith}
use lib.Dec.{T}
use lib.IntN.{ℤ, pos, negsuc, nat_abs, ◌-ℤ◌, ◌*ℤ◌}
use lib.Signed.{mag, lt_z, non_neg}
use mir.Syntax.{w32, w64}
use mir.Val.{SFits, Fits, to_z, of_z}
use mir.Facts.{to_z-of_z, sfits_widen}
use Rattle.plane.proofs.WholeLaws.{up, down, Le, difference_is, diff_is, not_below_zero, lt_true, lt_false, square_le}

-- a number of an i32 column or field, as a list or a record has it
pub fit : (z : ℤ) → mag z < 2 ^ 31 → SFits w32 z
fit z h = record { sfits = h }

pub wide : {z : ℤ} → SFits w32 z → SFits w64 z
wide f = sfits_widen tt f

-- an i32 cast to i64
pub widened : {z : ℤ} → SFits w32 z → to_z w64 (of_z w64 (to_z w32 (of_z w32 z))) ≡ z
widened f = rw (to_z-of_z f, to_z-of_z (wide f))

-- how large an i32 is
pub size : {z : ℤ} → SFits w32 z → up z + down z ≤ 2 ^ 31
size {z = pos n} f = omega (arith, f.sfits)
size {z = negsuc n} f = omega (arith, f.sfits)

-- the test of two i32
pub less : {a b : ℤ} → SFits w32 a → SFits w32 b → lt_z (to_z w32 (of_z w32 a)) (to_z w32 (of_z w32 b)) ≡ true → up a + down b < up b + down a
less {a} {b} f g e = lt_true a b (rw (to_z-of_z f, to_z-of_z g) at e)

pub not_less : {a b : ℤ} → SFits w32 a → SFits w32 b → lt_z (to_z w32 (of_z w32 a)) (to_z w32 (of_z w32 b)) ≡ false → Le b a
not_less {a} {b} f g e = lt_false a b (rw (to_z-of_z f, to_z-of_z g) at e)

-- a difference of two, as an i64 holds it
mag_le : (z : ℤ) → mag z ≤ nat_abs z
mag_le (pos n) = omega arith
mag_le (negsuc n) = omega arith

pub diff_fits : {a b : ℤ} → SFits w32 a → SFits w32 b → SFits w64 (a -ℤ b)
diff_fits {a} {b} f g = record { sfits = omega (arith, mag_le (a -ℤ b), difference_is a b, size f, size g) }

diff_held : {a b : ℤ} → SFits w32 a → SFits w32 b
    → to_z w64 (of_z w64 (to_z w64 (of_z w64 (to_z w32 (of_z w32 a))) -ℤ to_z w64 (of_z w64 (to_z w32 (of_z w32 b))))) ≡ a -ℤ b
diff_held f g = rw (widened f, widened g, to_z-of_z (diff_fits f g))

-- the same, where each was made an i64 first
pub diff_of : {a b d e : ℤ} → SFits w32 a → SFits w32 b → d ≡ to_z w32 (of_z w32 a) → e ≡ to_z w32 (of_z w32 b)
    → to_z w64 (of_z w64 (to_z w64 (of_z w64 d) -ℤ to_z w64 (of_z w64 e))) ≡ a -ℤ b
diff_of f g p q = rw (p, q, diff_held f g)

abs_fits : (z : ℤ) → SFits w64 z → Fits w64 (nat_abs z)
abs_fits (pos n) f = omega (arith, f.sfits)
abs_fits (negsuc n) f = omega (arith, f.sfits)

-- the square of a difference of coordinates in range, and its cast
mag_square : (z : ℤ) → mag (z *ℤ z) ≡ nat_abs z * nat_abs z
mag_square (pos n) = refl
mag_square (negsuc n) = refl

pub square_is : (z : ℤ) → nat_abs (z *ℤ z) ≡ nat_abs z * nat_abs z
square_is (pos n) = refl
square_is (negsuc n) = refl

square_nonneg : (z : ℤ) → T (non_neg (z *ℤ z))
square_nonneg (pos n) = tt
square_nonneg (negsuc n) = tt

pub square_fits : (z : ℤ) → nat_abs z ≤ 2000000 → SFits w64 (z *ℤ z)
square_fits z h = record { sfits = omega (arith, mag_square z, square_le (nat_abs z) 2000000 h) }

pub square_cast : (z : ℤ) → nat_abs z ≤ 2000000 → T (non_neg (z *ℤ z)) × Fits w64 (nat_abs (z *ℤ z))
square_cast z h = (square_nonneg z, abs_fits (z *ℤ z) (square_fits z h))

-- Integers as `omega` can read them: z is `up z` less `down z`, so that an order or a difference of integers is one of naturals.
-- Assumes nothing.
use mathlib.Core.Path.{◌≡◌, refl, ap, sym}
use mathlib.Core.Bool.{Bool, true, false, cond, not, ◌&&◌, ◌||◌}
use Prim.Native.Nat.{ℕ, zero, suc, ◌+◌, ◌-◌, ◌*◌, ◌≤◌, ◌<◌}
use native.Mathlib.Nat.{le_trans, mul-le-mul_left, mul-le-mul_right}
use native.Mathlib.Omega.{arith}
use lib.Dec.{T, ltb, leb→le, le→leb}
use borrow.Author.Tests.{ltb-true, ltb-false}
use lib.IntN.{ℤ, pos, negsuc, nat_abs, sub_ℕ, ◌+ℤ◌, ◌-ℤ◌, ◌*ℤ◌}
use lib.Signed.{non_neg, lt_z, ◌≤ℤ◌, le_z_yes}
use Rattle.std.specs.Int.{int_max}
use Rattle.std.specs.Ordering.{int_cmp, is_le}
use Rattle.std.proofs.Common.{Less, Equal, Greater}
use Rattle.plane.specs.Plane.{rise, outside, greatest}

pub false_not_true : false ≡ true → ⊥
false_not_true e = let z : ◌≡◌ {A = ℕ} 0 1 = cc in omega arith

abbrev pub up : ℤ → ℕ
up (pos n) = n
up (negsuc n) = 0

abbrev pub down : ℤ → ℕ
down (pos n) = 0
down (negsuc n) = suc n

-- a ≤ b, as two sums
abbrev pub Le : ℤ → ℤ → Type 0
Le a b = up a + down b ≤ up b + down a

pub le_read : {a b : ℤ} → a ≤ℤ b → Le a b
le_read {a = pos a} {b = pos b} h = omega (arith, leb→le a b h.le)
le_read {a = pos a} {b = negsuc b} h = absurd h.le
le_read {a = negsuc a} {b = pos b} h = omega arith
le_read {a = negsuc a} {b = negsuc b} h = omega (arith, leb→le b a h.le)

pub le_make : {a b : ℤ} → Le a b → a ≤ℤ b
le_make {a = pos a} {b = pos b} h = le_z_yes (le→leb a b (omega arith))
le_make {a = pos a} {b = negsuc b} h = absurd (omega arith)
le_make {a = negsuc a} {b = pos b} h = le_z_yes tt
le_make {a = negsuc a} {b = negsuc b} h = le_z_yes (le→leb b a (omega arith))

-- two integers that are each at most the other are one
pub le_antisym : (a b : ℤ) → Le a b → Le b a → a ≡ b
le_antisym (pos a) (pos b) h k = ap pos (omega arith)
le_antisym (pos a) (negsuc b) h k = absurd (omega arith)
le_antisym (negsuc a) (pos b) h k = absurd (omega arith)
le_antisym (negsuc a) (negsuc b) h k = ap negsuc (omega arith)

-- what a test of two integers says
pub lt_true : (a b : ℤ) → lt_z a b ≡ true → up a + down b < up b + down a
lt_true (pos a) (pos b) e = omega (arith, ltb-true a b e)
lt_true (pos a) (negsuc b) e = absurd (false_not_true e)
lt_true (negsuc a) (pos b) e = omega arith
lt_true (negsuc a) (negsuc b) e = omega (arith, ltb-true b a e)

pub lt_false : (a b : ℤ) → lt_z a b ≡ false → Le b a
lt_false (pos a) (pos b) e = omega (arith, ltb-false a b e)
lt_false (pos a) (negsuc b) e = omega arith
lt_false (negsuc a) (pos b) e = absurd (false_not_true (sym e))
lt_false (negsuc a) (negsuc b) e = omega (arith, ltb-false b a e)

-- the library's order and its greater of two, by the test of two
at_most : (a b : ℤ) → is_le (int_cmp a b) ≡ not (lt_z b a)
at_most a b = go (lt_z a b) (lt_z b a) refl refl
  where
    go : (s t : Bool) → lt_z a b ≡ s → lt_z b a ≡ t → is_le (cond s Less (cond t Greater Equal)) ≡ not t
    go true true d e = absurd (omega (arith, lt_true a b d, lt_true b a e))
    go true false d e = refl
    go false true d e = refl
    go false false d e = refl

pub max_is : (a b : ℤ) → int_max a b ≡ greatest a b
unfolding greatest
max_is a b = go (lt_z a b) (lt_z b a) refl refl
  where
    go : (s t : Bool) → lt_z a b ≡ s → lt_z b a ≡ t → cond t a b ≡ cond s b a
    go true true d e = absurd (omega (arith, lt_true a b d, lt_true b a e))
    go true false d e = refl
    go false true d e = refl
    go false false d e = le_antisym b a (lt_false a b d) (lt_false b a e)

-- a difference, and its size
sub_parts : (a b : ℕ) → (up (sub_ℕ a b) ≡ a - b) × (down (sub_ℕ a b) ≡ b - a)
sub_parts a b = go (ltb a b) refl
  where
    go : (t : Bool) → ltb a b ≡ t → let z = cond t (negsuc (b - suc a)) (pos (a - b)) in (up z ≡ a - b) × (down z ≡ b - a)
    go true e = omega (arith, ltb-true a b e)
    go false e = omega (arith, ltb-false a b e)

pub diff_is : (a b : ℤ) → (up (a -ℤ b) ≡ up a + down b - (up b + down a)) × (down (a -ℤ b) ≡ up b + down a - (up a + down b))
diff_is (pos a) (pos zero) = omega arith
diff_is (pos a) (pos (suc b)) = omega (arith, sub_parts a (suc b))
diff_is (pos a) (negsuc b) = omega arith
diff_is (negsuc a) (pos zero) = omega (arith, sub_parts 0 (suc a))
diff_is (negsuc a) (pos (suc b)) = omega arith
diff_is (negsuc a) (negsuc b) = omega (arith, sub_parts (suc b) (suc a))

pub size_is : (z : ℤ) → nat_abs z ≡ up z + down z
size_is (pos n) = omega arith
size_is (negsuc n) = omega arith

pub difference_is : (a b : ℤ) → nat_abs (a -ℤ b) ≡ (up a + down b - (up b + down a)) + (up b + down a - (up a + down b))
difference_is a b = omega (arith, diff_is a b, size_is (a -ℤ b))

pub not_below_zero : (z : ℤ) → down z ≡ 0 → T (non_neg z)
not_below_zero (pos n) e = tt
not_below_zero (negsuc n) e = absurd (omega arith)

-- an integer and a natural, added
pub sum_is : (a : ℤ) (d : ℕ) → (up (a +ℤ pos d) ≡ up a + d - down a) × (down (a +ℤ pos d) ≡ down a - (up a + d))
sum_is (pos a) d = omega arith
sum_is (negsuc a) d = omega (arith, sub_parts d (suc a))

-- squares
pub square_le : (n m : ℕ) → n ≤ m → n * n ≤ m * m
square_le n m h = le_trans (mul-le-mul_left n h) (mul-le-mul_right m h)

pub squares_add : (d e : ℤ) → nat_abs (d *ℤ d +ℤ e *ℤ e) ≡ nat_abs d * nat_abs d + nat_abs e * nat_abs e
squares_add (pos d) (pos e) = refl
squares_add (pos d) (negsuc e) = refl
squares_add (negsuc d) (pos e) = refl
squares_add (negsuc d) (negsuc e) = refl

-- how far b stands above a
pub rise_is : (a b : ℤ) → rise a b ≡ up b + down a - (up a + down b)
unfolding rise
rise_is a b = go (lt_z a b) refl
  where
    go : (t : Bool) → lt_z a b ≡ t → cond t (nat_abs (b -ℤ a)) 0 ≡ up b + down a - (up a + down b)
    go true e = omega (arith, lt_true a b e, difference_is b a)
    go false e = omega (arith, lt_false a b e)

-- in range
pub or_left : (s t : Bool) → (s || t) ≡ false → s ≡ false
or_left true t e = e
or_left false t e = refl

pub or_right : (s t : Bool) → (s || t) ≡ false → t ≡ false
or_right true t e = absurd (false_not_true (sym e))
or_right false t e = e

neither : (s t : Bool) → not (not s && not t) ≡ (s || t)
neither true t = refl
neither false true = refl
neither false false = refl

pub range_test : (z : ℤ) → not (is_le (int_cmp (negsuc 999999) z) && is_le (int_cmp z (pos 1000000))) ≡ outside z
unfolding outside
range_test z = rw (at_most (negsuc 999999) z, at_most z (pos 1000000)) (neither (lt_z z (negsuc 999999)) (lt_z (pos 1000000) z))

bounds : (z : ℤ) → Le (negsuc 999999) z → Le z (pos 1000000) → up z + down z ≤ 1000000
bounds (pos n) h k = omega arith
bounds (negsuc n) h k = omega arith

pub range_read : (z : ℤ) → outside z ≡ false → up z + down z ≤ 1000000
unfolding outside
range_read z e =
    let s = lt_z z (negsuc 999999) in
    let t = lt_z (pos 1000000) z in
    bounds z (lt_false z (negsuc 999999) (or_left s t e)) (lt_false (pos 1000000) z (or_right s t e))

-- so two coordinates in range differ by at most 2,000,000
pub difference_le : (a b : ℤ) → outside a ≡ false → outside b ≡ false → nat_abs (a -ℤ b) ≤ 2000000
difference_le a b p q = omega (arith, difference_is a b, range_read a p, range_read b q)

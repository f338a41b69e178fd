-- What flags of the code tell.
-- Assumes nothing.
use mathlib.Core.Path.{◌≡◌}
use mathlib.Core.Bool.{true, false, not}
use Prim.Native.Nat.{ℕ}
use borrow.Author.Tests.{ltb-true, ltb-false, leb-true, leb-false, eqb-true, eqb-false, not-true, not-false}
use lib.Dec.{eqb}

pub ne_true : (a b : ℕ) → not (eqb a b) ≡ true → a ≡ b → ⊥
ne_true a b e = eqb-false a b (not-true (eqb a b) e)

pub ne_false : (a b : ℕ) → not (eqb a b) ≡ false → a ≡ b
ne_false a b e = eqb-true a b (not-false (eqb a b) e)

-- the tests of a chain of `||` after the first, for omega's list
pub ruleset flags = (ltb-true, ltb-false, leb-true, leb-false, ne_true, ne_false)

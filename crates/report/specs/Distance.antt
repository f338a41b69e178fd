-- The distance shown for a squared diameter.
-- Assumes nothing.
use Rattle.std.specs.Prelude.{ℕ, zero, suc, ◌*◌, ◌/◌}
use Rattle.std.proofs.Math.Decide.{dec_le}

-- r, or the number after it where its square is not above n
abbrev pub greater : ℕ → ℕ → ℕ
greater n r = elim (dec_le (suc r * suc r) n) [ yes _ ↦ suc r | no _ ↦ r ]

-- the root of a number of at most k digits of base 4: twice the root of its quarter, or one more
unfoldable pub root_in : ℕ → ℕ → ℕ
unfolding dec_le
root_in zero n = 0
root_in (suc k) n = greater n (2 * root_in k (n / 4))

-- the greatest whole number whose square is not above n, for 64 bits
unfoldable pub root_of : ℕ → ℕ
root_of n = root_in 32 n

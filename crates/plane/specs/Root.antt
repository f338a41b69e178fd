-- The whole-number root.
-- Assumes nothing.
use Rattle.std.specs.Prelude.{ℕ, ◌*◌, ◌≤◌}

-- r is the greatest whole number whose square is not above n
pub record Root (n r : ℕ) : Type 0 where
  pub not_above : r * r ≤ n
  pub greatest : (s : ℕ) → s * s ≤ n → s ≤ r

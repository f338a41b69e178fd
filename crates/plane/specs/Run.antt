-- What a run comes to: its members joined, one after the other.
-- Assumes nothing.
use Rattle.std.specs.Prelude.{ℕ, zero, suc, ◌+◌}

-- f from, f (from + 1), .., f (from + more), joined by op from the left
unfoldable pub joined : {A : Type 0} → (A → A → A) → (ℕ → A) → ℕ → ℕ → A
joined op f from zero = f from
joined op f from (suc more) = op (joined op f from more) (f (from + suc more))

-- The levels of the members of a candidate: all are the root at first, and each time the leftmost of the highest is replaced by
-- an entry, which is one level lower. So they go down in turn.
-- Assumes nothing.
use Rattle.std.specs.Prelude.{cond, List, ℕ, ◌+◌, ◌-◌, ltb}
use Rattle.order.specs.Tab.{tab}

-- the levels of m members, of which `top` is the leftmost of the highest: those before it are one lower; 0 behind them
abbrev pub levels_at : ℕ → ℕ → ℕ → List ℕ
levels_at m top high = tab (λ i. cond (ltb i m) (cond (ltb i top) (high - 1) high) 0) 8

-- once it is replaced: the leftmost of the highest, and its level
abbrev pub next_top : ℕ → ℕ → ℕ
next_top m top = cond (ltb (top + 1) m) (top + 1) 0

abbrev pub next_high : ℕ → ℕ → ℕ → ℕ
next_high m top high = cond (ltb (top + 1) m) high (high - 1)

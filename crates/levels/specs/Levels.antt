-- How the builder's nodes over n places lie: sixteen in a row make a node above, until one node is left. Level 0 is the places.
-- Assumes nothing.
use Rattle.std.specs.Prelude.{ℕ, zero, suc, ◌+◌, ◌-◌, ◌*◌, ◌/◌, min}
use Rattle.std.proofs.Math.Decide.{dec_lt}
use Rattle.verdict.specs.First.{first_not}
use Rattle.levels.specs.declared.Spot.{Spot}

-- how many there are on level l: sixteen in a row make one above, the last takes the rest
unfoldable pub size : ℕ → ℕ → ℕ
size n zero = n
size n (suc l) = (size n l + 15) / 16

-- the level of the root: the lowest from 1 on with at most one node
unfoldable pub height : ℕ → ℕ
unfolding first_not dec_lt
height n = first_not (λ l. dec_lt 1 (size n l)) 1 5

-- how many nodes the d levels above level l have
unfoldable pub over : ℕ → ℕ → ℕ → ℕ
over n l zero = 0
over n l (suc d) = size n (suc l) + over n (suc l) d

-- the number of the first node of level l: numbers run root first, so as many are above it. What stands on level 0 would be numbered after all nodes
abbrev pub first : ℕ → ℕ → ℕ
first n l = over n l (height n - l)

-- the node count and the entry count
abbrev pub nodes : ℕ → ℕ
nodes n = first n 0

abbrev pub listed : ℕ → ℕ
listed n = n + nodes n - 1

-- the level of node m: the lowest that does not start after it
unfoldable pub level_at : ℕ → ℕ → ℕ
unfolding first_not dec_lt
level_at n m = first_not (λ l. dec_lt m (first n l)) 1 5

-- the rank of node m on its level, from the left
abbrev pub rank_at : ℕ → ℕ → ℕ
rank_at n m = m - first n (level_at n m)

-- of s things on a level, how many belong to the node of rank r above
abbrev pub share : ℕ → ℕ → ℕ
share s r = min 16 (s - 16 * r)

-- where the run of m starts: thing number t is named at index t - 1
abbrev pub start_at : ℕ → ℕ → ℕ
start_at n m = first n (level_at n m - 1) + 16 * rank_at n m - 1

abbrev pub count_at : ℕ → ℕ → ℕ
count_at n m = share (size n (level_at n m - 1)) (rank_at n m)

-- the level and the run of node m
abbrev pub spot_at : ℕ → ℕ → Spot
spot_at n m = record { level = level_at n m; start = start_at n m; count = count_at n m }

-- The rank of a node on its level, and the run that goes with it.
-- Assumes nothing.
use mathlib.Core.Path.{◌≡◌}
use Prim.Native.Nat.{ℕ, zero, suc, ◌+◌, ◌-◌, ◌*◌, ◌≤◌, ◌<◌}
use native.Mathlib.Omega.{arith}
use Rattle.levels.specs.Levels.{size, height, first, nodes, listed, level_at, rank_at, share, start_at, count_at}
use Rattle.levels.proofs.LevelLaws.{On, on_level, on_is, size_none, size_up, first_next, first_falls}

-- m is the node of rank r on the level above k
pub record Ranked (n m k r : ℕ) : Type 0 where
  pub high : k < height n
  pub low : r < size n (suc k)
  pub number : m ≡ first n (suc k) + r

module _ {n : ℕ} (few : n ≤ 4096) where
  -- no level starts after all nodes
  pub first_within : (k : ℕ) → k ≤ height n → first n k ≤ nodes n
  first_within k h = let e : 0 + k ≡ k = omega arith in rw e at (first_falls n few 0 k (rw e h))

  -- with the places numbered after the nodes, no level ends after all things
  level_within : (k : ℕ) → k ≤ height n → first n k + size n k ≤ nodes n + n
  level_within zero h = omega (arith, size_none n)
  level_within (suc k) h = omega (arith, first_next n few k h, first_within k (omega arith))

  -- every node has a rank
  pub ranked : (m : ℕ) → m < nodes n → Ranked n m (level_at n m - 1) (rank_at n m)
  ranked m l = go (level_at n m) (on_level n few m l)
    where
      go : (l : ℕ) → On n m l → Ranked n m (l - 1) (m - first n l)
      go zero o = absurd (omega (arith, o.low))
      go (suc k) o =
          let e : suc k - 1 ≡ k = omega arith in
          rw e (record { high = o.high; low = omega (arith, o.from, rw e at o.to, first_next n few k o.high); number = omega (arith, o.from) })

  module _ {m k r : ℕ} (o : Ranked n m k r) where
    -- it comes before the things of the level below
    pub before : m < first n k
    before = omega (arith, first_next n few k o.high)

    pub is_node : m < nodes n
    is_node = omega (arith, before, first_within k (omega (arith, o.high)))

    -- its level and its rank are the defined ones
    pub level_is : level_at n m ≡ suc k
    level_is =
        let e : suc k - 1 ≡ k = omega arith in
        on_is n few m (suc k) (record { low = omega arith; high = o.high; from = omega arith; to = rw e before })

    lower_is : level_at n m - 1 ≡ k
    lower_is = omega (arith, level_is)

    pub rank_is : rank_at n m ≡ r
    rank_is = rw level_is (omega arith)

    -- where its run starts, and how long it is
    pub start_is : start_at n m ≡ first n k + 16 * r - 1
    start_is = rw (rank_is, lower_is)

    pub count_is : count_at n m ≡ share (size n k) r
    count_is = rw (rank_is, lower_is)

    -- it is not empty, and what it names is on the level below
    pub count_low : 1 ≤ count_at n m
    count_low = omega (arith, count_is, size_up n k)

    pub count_high : 16 * r + count_at n m ≤ size n k
    count_high = omega (arith, count_is, size_up n k)

    -- the j-th of it has rank 16 r + j there, and so this number
    pub named_at : (j : ℕ) → suc (start_at n m + j) ≡ first n k + (16 * r + j)
    named_at j = omega (arith, start_is, before)

    -- the run stands in the list
    pub run_inside : start_at n m + count_at n m ≤ listed n
    run_inside = rw (start_is, count_is) (omega (arith, size_up n k, before, level_within k (omega (arith, o.high))))

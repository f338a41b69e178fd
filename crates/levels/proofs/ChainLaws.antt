-- The builder's runs lie end to end.
-- Assumes nothing.
use mathlib.Core.Path.{◌≡◌, ap}
use Prim.Native.Nat.{ℕ, zero, suc, ◌+◌, ◌≤◌, ◌<◌}
use native.Mathlib.Decide.{dec_lt}
use native.Mathlib.Omega.{arith}
use Rattle.levels.specs.Levels.{size, height, nodes, listed, start_at, count_at}
use Rattle.levels.proofs.LevelLaws.{size_none, size_up, size_top, first_next}
use Rattle.levels.proofs.RankLaws.{Ranked, ranked, before, start_is, count_is, first_within}

module _ {n : ℕ} (few : n ≤ 4096) where
  -- the root's run is the first
  pub root_start : 0 < nodes n → start_at n 0 ≡ 0
  root_start l = go (ranked few 0 l)
    where
      go : {k r : ℕ} → Ranked n 0 k r → start_at n 0 ≡ 0
      go {k} {r} o = rw (start_is few o) (omega (arith, o.number, first_next n few k o.high, top (dec_lt (suc k) (height n))))
        where
          top : Dec (suc k < height n) → size n (suc k) ≤ 1
          top (yes h) = absurd (omega (arith, o.number, o.low, size_up n (suc k), first_next n few (suc k) h))
          top (no h) = let e : suc k ≡ height n = omega (arith, o.high) in omega (arith, ap (size n) e, size_top n few)

  -- each next starts where the one before ends
  pub next_start : (m : ℕ) → suc m < nodes n → start_at n (suc m) ≡ start_at n m + count_at n m
  next_start m l = go (ranked few m (omega arith)) (dec_lt _ _)
    where
      go : {k r : ℕ} → Ranked n m k r → Dec (suc r < size n (suc k)) → start_at n (suc m) ≡ start_at n m + count_at n m
      go {k} {r} o (yes h) =
          let p : Ranked n (suc m) k (suc r) = record { high = o.high; low = h; number = omega (arith, o.number) } in
          rw (start_is few p, start_is few o, count_is few o) (omega (arith, before few o, size_up n k))
      go {k = zero} o (no h) = absurd (omega (arith, o.number, o.low, first_next n few 0 o.high))
      go {k = suc k} o (no h) =
          let f = first_next n few k (omega (arith, o.high)) in
          let g = first_next n few (suc k) o.high in
          let p : Ranked n (suc m) k 0 = record { high = omega (arith, o.high); low = omega (arith, o.low, size_up n (suc k)); number = omega (arith, o.number, o.low) } in
          rw (start_is few p, start_is few o, count_is few o) (omega (arith, before few o, o.low, size_up n (suc k)))

  -- the last ends at the list's end
  pub last_end : (m : ℕ) → suc m ≡ nodes n → start_at n m + count_at n m ≡ listed n
  last_end m e = go (ranked few m (omega arith))
    where
      go : {k r : ℕ} → Ranked n m k r → start_at n m + count_at n m ≡ listed n
      go {k = zero} o = rw (start_is few o, count_is few o) (omega (arith, o.number, o.low, size_none n, size_up n 0, first_next n few 0 o.high))
      go {k = suc k} o = absurd (omega (arith, before few o, o.low, size_up n (suc k), first_next n few k (omega (arith, o.high)), first_within few k (omega (arith, o.high))))

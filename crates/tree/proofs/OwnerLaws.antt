-- Which run a list index stands in, where the runs lie end to end.
-- Assumes nothing.
use mathlib.Core.Path.{◌≡◌, ap, ◌∙◌}
use mathlib.Core.Logic.{◌⊎◌, inl, inr}
use Prim.Native.Nat.{ℕ, zero, suc, ◌+◌, ◌≤◌, ◌<◌}
use native.Mathlib.Nat.{eq-or-lt_of_le, le_of_suc-le-suc, not-suc-le-zero}
use native.Mathlib.Numerals.{add-one}
use native.Mathlib.Decide.{dec_le, ℕ_discrete}
use native.Mathlib.Omega.{arith}
use borrow.Author.Count.{below_more, below_none}
use borrow.Author.Tests.{eq-eqb, ne_eqb}
use lib.Dec.{eqb}
use lib.ListN.{get_or}
use Rattle.verdict.specs.Rules.{AllHold}
use Rattle.verdict.proofs.FirstLaws.{First, first_is, first_found}
use Rattle.tree.specs.Tree.{Shape, level_of, start_of, end_of, due, owner, Stands, thing, named}
use Rattle.tree.specs.Rules.{Shaped, Ended, rules22}
use Rattle.tree.specs.Lent.{moved}

-- rule 22, as it is used
pub record Runs (s : Shape) : Type 0 where
  pub shaped : (n : ℕ) → n < s.nodes → Shaped s n
  pub ended : Ended s

pub runs_of : {s : Shape} → AllHold (rules22 s) → Runs s
runs_of {s} h = record { shaped = λ n l. h.0 n (omega arith) (omega arith); ended = h.1.0 s.nodes (omega arith) (omega arith) }

-- a walk over the list has come to i, in the run of n, and P holds of each index passed
pub record Walked (s : Shape) (P : ℕ → Type 0) (i n : ℕ) : Type 0 where
  pub within : i ≤ s.listed
  pub stands : i < s.listed → Stands s i n
  pub past : (k : ℕ) → k < i → P k

due_le : (s : Shape) (n i : ℕ) → ((k : ℕ) → k < n → end_of s k ≤ i) → due s n ≤ i
due_le s zero i h = omega arith
due_le s (suc n) i h = h n (omega arith)

module _ {s : Shape} (r : Runs s) where
  -- a run ends before any later one starts
  ends_before : (n k : ℕ) → n ≤ s.nodes → k < n → end_of s k ≤ due s n
  ends_before zero k l b = absurd (not-suc-le-zero b)
  ends_before (suc n) k l b = go (ends_before n k (omega arith)) (eq-or-lt_of_le (le_of_suc-le-suc b))
    where
      go : (k < n → end_of s k ≤ due s n) → (k ≡ n) ⊎ (k < n) → end_of s k ≤ end_of s n
      go more (inl e) = omega (arith, ap (end_of s) e)
      go more (inr c) = omega (arith, more c, (r.shaped n (omega arith)).starts)

  -- no run ends past the list
  pub run_within : (n : ℕ) → n < s.nodes → end_of s n ≤ s.listed
  run_within n l = omega (arith, ends_before s.nodes n (omega arith) l, r.ended)

  pub owner_is : (i n : ℕ) → Stands s i n → owner s i ≡ n
  unfolding owner
  owner_is i n t = first_is (λ k. dec_le (end_of s k) i) 0 s.nodes n (record { above = omega arith; within = omega (arith, t.node); before = before; fails = λ _ h. omega (arith, t.high) })
    where
      before : (k : ℕ) → 0 ≤ k → k < n → end_of s k ≤ i
      before k _ b = omega (arith, ends_before n k (omega (arith, t.node)) b, (r.shaped n t.node).starts, t.low)

  pub owner_stands : (i : ℕ) → i < s.listed → Stands s i (owner s i)
  unfolding owner
  owner_stands i l = go (owner s i) (first_found (λ k. dec_le (end_of s k) i) 0 s.nodes)
    where
      go : (n : ℕ) → First (λ k. end_of s k ≤ i) 0 s.nodes n → Stands s i n
      go n f = record { node = below; low = omega (arith, (r.shaped n below).starts, starts); high = omega (arith, f.fails (omega (arith, below))) }
        where
          starts : due s n ≤ i
          starts = due_le s n i (λ k b. f.before k (omega arith) b)

          cannot : s.nodes ≤ n → ⊥
          cannot h =
              let e : n ≡ s.nodes = omega (arith, f.within) in
              omega (arith, ap (due s) e, starts, r.ended)

          below : n < s.nodes
          below = omega (arith, cannot)

  pub stands_first : 0 < s.listed → Stands s 0 0
  stands_first l = record { node = below; low = omega (arith, (r.shaped 0 below).starts); high = omega (arith, (r.shaped 0 below).count_low) }
    where
      cannot : s.nodes ≤ 0 → ⊥
      cannot h =
          let e : s.nodes ≡ 0 = omega arith in
          omega (arith, ap (due s) e, r.ended)

      below : 0 < s.nodes
      below = omega (arith, cannot)

  -- the next index stands in the same run, or in the next where this one ends
  pub stands_next : (i n : ℕ) → Stands s i n → i + 1 < s.listed → Stands s (i + 1) (moved (end_of s n) n (i + 1))
  stands_next i n t l = go (ℕ_discrete (i + 1) (end_of s n))
    where
      at_end : i + 1 ≡ end_of s n → Stands s (i + 1) (n + 1)
      at_end e = record { node = below; low = omega (arith, starts); high = omega (arith, (r.shaped (n + 1) below).count_low, starts) }
        where
          cannot : s.nodes ≤ suc n → ⊥
          cannot h =
              let q : s.nodes ≡ suc n = omega (arith, t.node) in
              omega (arith, ap (due s) q, r.ended)

          below : n + 1 < s.nodes
          below = omega (arith, cannot)

          starts : start_of s (n + 1) ≡ end_of s n
          starts = (r.shaped (n + 1) below).starts ∙ ap (due s) (add-one n)

      go : Dec (i + 1 ≡ end_of s n) → Stands s (i + 1) (moved (end_of s n) n (i + 1))
      go (yes e) = rw (eq-eqb (i + 1) (end_of s n) e) (at_end e)
      go (no h) = rw (ne_eqb (i + 1) (end_of s n) h) (record { node = t.node; low = omega (arith, t.low); high = omega (arith, t.high, h) })

  -- what stands at i, by the node in whose run it is
  pub named_is : (i n : ℕ) → Stands s i n → named s i ≡ thing (eqb (level_of s n) 1) (get_or s.entries i 0)
  named_is i n t = ap (λ (k : ℕ). thing (eqb (level_of s k) 1) (get_or s.entries i 0)) (owner_is i n t)

  module _ (P : ℕ → Type 0) where
    pub walked_first : Walked s P 0 0
    walked_first = record { within = omega arith; stands = stands_first; past = below_none P }

    pub walked_more : {i n : ℕ} → Walked s P i n → i < s.listed → P i → Walked s P (i + 1) (moved (end_of s n) n (i + 1))
    walked_more {i} {n} w l h = record { within = omega arith; stands = λ b. stands_next i n (w.stands l) b; past = below_more P i w.past h }

-- Rule 22 by a walk over the nodes.
-- Assumes nothing.
use mathlib.Core.Path.{◌≡◌, refl, sym, ap, ◌∙◌}
use Prim.Native.Nat.{ℕ, ◌+◌, ◌*◌, ◌≤◌, ◌<◌}
use native.Mathlib.Numerals.{add-one}
use native.Mathlib.Omega.{arith}
use borrow.Author.Count.{below_more, below_none}
use Rattle.verdict.specs.Rules.{verdict, says}
use Rattle.verdict.proofs.RuleLaws.{broken, held, all_hold, breaks_at}
use Rattle.tree.specs.Tree.{Shape, count_of, due}
use Rattle.tree.specs.Rules.{Shaped, rules22}

-- the first n nodes are shaped, and the next run is due at `at`
pub record Passed (s : Shape) (n at : ℕ) : Type 0 where
  pub within : n ≤ s.nodes
  pub stands : at ≡ due s n
  pub small : at ≤ 16 * n
  pub past : (k : ℕ) → k < n → Shaped s k

pub passed_none : (s : Shape) → Passed s 0 0
passed_none s = record { within = omega arith; stands = refl; small = omega arith; past = below_none (Shaped s) }

module _ {s : Shape} {n at : ℕ} (g : Passed s n at) where
  pub passed_more : n < s.nodes → Shaped s n → Passed s (n + 1) (at + count_of s n)
  passed_more l h = record {
    within = omega arith;
    stands = rw add-one (omega (arith, g.stands, h.starts));
    small = omega (arith, g.small, h.count_high);
    past = below_more (Shaped s) n g.past h;
  }

  -- the walk stops at a node that is not shaped
  pub misshaped : n < s.nodes → (Shaped s n → ⊥) → says 22 n ≡ verdict (rules22 s)
  misshaped l h = breaks_at _ refl _ n l g.past h

  module _ (e : s.nodes ≤ n) where
    at_end : at ≡ due s s.nodes
    at_end = let ends : n ≡ s.nodes = omega arith in g.stands ∙ ap (due s) ends

    all : (k : ℕ) → 0 ≤ k → k < 0 + s.nodes → Shaped s k
    all k a b = g.past k (omega arith)

    -- all nodes are shaped, and the last run does not end at the list's end
    pub misended : (at ≡ s.listed → ⊥) → says 22 s.nodes ≡ verdict (rules22 s)
    misended h =
        sym
        (held _ _ all
        ∙ broken _ _ s.nodes
        (record { above = omega arith; within = omega arith; before = λ k a b. absurd (omega arith); fails = λ _ q. h (at_end ∙ q) })
        (omega arith))

    pub runs_hold : at ≡ s.listed → says 0 0 ≡ verdict (rules22 s)
    runs_hold h = sym (all_hold (rules22 s) (all, (λ k a b. sym at_end ∙ h, tt)))

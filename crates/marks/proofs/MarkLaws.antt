-- Rule 24 by one pass with a mark for each thing.
-- Assumes nothing.
use mathlib.Core.Path.{◌≡◌, refl, sym, ap, subst, ◌∙◌}
use mathlib.Core.Bool.{Bool, true, false, false≢true}
use mathlib.Core.List.{List}
use Prim.Native.Nat.{ℕ, zero, suc, ◌+◌, ◌≤◌, ◌<◌}
use native.Mathlib.Decide.{ℕ_discrete}
use native.Mathlib.Omega.{arith}
use borrow.Author.Count.{below_more}
use lib.Dec.{eqb}
use lib.ListN.{length, get_or, set, replicate, length-replicate, length-set}
use lib.Seq.{get_or-set_same, get_or-set_other}
use Rattle.verdict.specs.Rules.{Holds}
use Rattle.tree.specs.Tree.{Shape, level_of, end_of, owner, Thing, place, node, thing, named}
use Rattle.tree.specs.Rules.{MayName, New, rule23, rule24}
use Rattle.tree.specs.Lent.{moved, mark_of, Decides}
use Rattle.tree.proofs.DecidesLaws.{decides_yes, decides_no}
use Rattle.tree.proofs.OwnerLaws.{Runs, Walked, named_is, walked_more, walked_first}

mark : Thing → ℕ
mark (place p) = p
mark (node n) = 4096 + n

-- a thing that has a mark of its own
abbrev Marks : ℕ → Thing → Type 0
Marks nodes (place p) = p < 4096
Marks nodes (node n) = n < nodes

marks_of : (s : Shape) (l : ℕ) (x : Thing) → MayName 4096 s l x → Marks s.nodes x
marks_of s l (place p) m = m
marks_of s l (node n) m = m.1.0

mark_below : (nodes : ℕ) (x : Thing) → nodes ≤ 2048 → Marks nodes x → mark x < 6144
unfolding mark
mark_below nodes (place p) l h = omega arith
mark_below nodes (node n) l h = omega arith

mark_inj : (nodes : ℕ) (x y : Thing) → Marks nodes x → Marks nodes y → mark x ≡ mark y → x ≡ y
unfolding mark
mark_inj nodes (place p) (place q) h k e = ap place e
mark_inj nodes (place p) (node n) h k e = absurd (omega arith)
mark_inj nodes (node n) (place q) h k e = absurd (omega arith)
mark_inj nodes (node n) (node m) h k e = ap node (omega arith)

entry_small : (nodes : ℕ) (leaf : Bool) (e : ℕ) → nodes ≤ 2048 → Marks nodes (thing leaf e) → e < 4096
entry_small nodes true e l h = h
entry_small nodes false e l h = omega arith

mark_of_lem : (leaf : Bool) (e : ℕ) → mark (thing leaf e) ≡ mark_of leaf e
unfolding mark
mark_of_lem true e = refl
mark_of_lem false e = refl

-- the pass has come to i, in the run of n; what is named before i is new each time, and just that is marked
pub record Marked (s : Shape) (i n : ℕ) (seen : List Bool) : Type 0 where
  pub walked : Walked s (New s) i n
  pub room : length seen ≡ 6144
  marked : (j : ℕ) → j < i → get_or seen (mark (named s j)) false ≡ true
  named_at : (k : ℕ) → get_or seen k false ≡ true → (j : ℕ) × ((j < i) × (mark (named s j) ≡ k))

unmarked : (n k : ℕ) → get_or {A = Bool} (replicate n false) k false ≡ false
unmarked zero k = refl
unmarked (suc n) zero = refl
unmarked (suc n) (suc k) = unmarked n k

-- what is marked after one more mark
marked_still : (seen : List Bool) (h k : ℕ) → h < length seen → get_or seen k false ≡ true → get_or (set seen h true) k false ≡ true
marked_still seen h k l e = go (ℕ_discrete k h)
  where
    go : Dec (k ≡ h) → get_or (set seen h true) k false ≡ true
    go (yes q) = rw q (get_or-set_same seen h true false l)
    go (no n) = get_or-set_other seen h k true false n ∙ e

module _ {s : Shape} (r : Runs s) (few : s.nodes ≤ 2048) (names : Holds (rule23 4096 s)) where
  marks : (j : ℕ) → j < s.listed → Marks s.nodes (named s j)
  marks j l = marks_of s (level_of s (owner s j)) (named s j) (names j (omega arith) (omega arith))

  pub marked_first : Marked s 0 0 (replicate 6144 false)
  marked_first = record {
    walked = walked_first r (New s);
    room = length-replicate {A = Bool} 6144 false;
    marked = λ j b. absurd (omega arith);
    named_at = λ k e. absurd (false≢true (sym (unmarked 6144 k) ∙ e));
  }

  module _ (i n : ℕ) (seen : List Bool) (g : Marked s i n seen) (l : i < s.listed) where
    -- the mark of what stands at i, as the code has it
    abbrev here : ℕ
    here = mark_of (eqb (level_of s n) 1) (get_or s.entries i 0)

    here_is : mark (named s i) ≡ here
    here_is = ap mark (named_is r i n (g.walked.stands l)) ∙ mark_of_lem (eqb (level_of s n) 1) (get_or s.entries i 0)

    pub here_below : here < length seen
    here_below = omega (arith, here_is, mark_below s.nodes (named s i) few (marks i l), g.room)

    pub entry_below : get_or s.entries i 0 < 4096
    entry_below = entry_small s.nodes (eqb (level_of s n) 1) (get_or s.entries i 0) few (subst (Marks s.nodes) (named_is r i n (g.walked.stands l)) (marks i l))

    -- marked before: named before
    pub seen_before : get_or seen here false ≡ true → Decides false (Holds (rule24 s))
    seen_before e = decides_no (λ h. h i (omega arith) (omega arith) f.0 f.1.0 same)
      where
        f : (j : ℕ) × ((j < i) × (mark (named s j) ≡ here))
        f = g.named_at here e

        same : named s f.0 ≡ named s i
        same = mark_inj s.nodes (named s f.0) (named s i) (marks f.0 (omega (arith, f.1.0))) (marks i l) (f.1.1 ∙ sym here_is)

    -- not marked: new, and marked now
    pub marked_more : (get_or seen here false ≡ true → ⊥) → Marked s (i + 1) (moved (end_of s n) n (i + 1)) (set seen here true)
    marked_more u = record {
      walked = walked_more r (New s) g.walked l new;
      room = simp length-set g.room;
      marked = below_more (λ j. get_or (set seen here true) (mark (named s j)) false ≡ true) i (λ j b. marked_still seen here (mark (named s j)) here_below (g.marked j b))
          (rw here_is (get_or-set_same seen here true false here_below));
      named_at = λ k. from k (ℕ_discrete k here);
    }
      where
        new : New s i
        new j b e = u (subst (λ (k : ℕ). get_or seen k false ≡ true) (ap mark e ∙ here_is) (g.marked j b))

        from : (k : ℕ) → Dec (k ≡ here) → get_or (set seen here true) k false ≡ true → (j : ℕ) × ((j < i + 1) × (mark (named s j) ≡ k))
        from k (yes q) e = (i, (omega arith, here_is ∙ sym q))
        from k (no n) e = let f = g.named_at k (sym (get_or-set_other seen here k true false n) ∙ e) in (f.0, (omega (arith, f.1.0), f.1.1))

  pub all_marked : (i n : ℕ) (seen : List Bool) → Marked s i n seen → s.listed ≤ i → Decides true (Holds (rule24 s))
  all_marked i n seen g e = decides_yes (λ k a b. g.walked.past k (omega arith))

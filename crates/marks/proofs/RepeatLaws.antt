-- Rule 24 by comparing each entry with those before it.
-- Assumes nothing.
use mathlib.Core.Path.{◌≡◌, refl, sym, ap₂, ◌∙◌}
use mathlib.Core.Bool.{Bool, true, false, beq, true≢false, false≢true}
use mathlib.Core.List.{[], ◌∷◌}
use Prim.Native.Nat.{ℕ, ◌+◌, ◌≤◌, ◌<◌}
use native.Mathlib.Omega.{arith}
use borrow.Author.Count.{below_more, below_none}
use lib.Dec.{eqb}
use lib.ListN.{get_or}
use Rattle.verdict.specs.Rules.{verdict, says}
use Rattle.verdict.proofs.RuleLaws.{breaks_at, holds_all}
use Rattle.tree.specs.Tree.{Shape, Stands, level_of, end_of, thing, named}
use Rattle.tree.specs.Rules.{New, rule24}
use Rattle.tree.specs.Lent.{moved}
use Rattle.tree.proofs.OwnerLaws.{Runs, Walked, named_is, stands_first, stands_next}

pub thing_inj : (a b : Bool) (e f : ℕ) → thing a e ≡ thing b f → (a ≡ b) × (e ≡ f)
thing_inj true true e f p = (refl, cc)
thing_inj true false e f p = (cc, cc)
thing_inj false true e f p = (cc, cc)
thing_inj false false e f p = (refl, cc)

-- what the code's `==` on two bools tells
pub beq_true : (a b : Bool) → beq a b ≡ true → a ≡ b
beq_true true true e = refl
beq_true true false e = cc
beq_true false true e = cc
beq_true false false e = refl

pub beq_false : (a b : Bool) → beq a b ≡ false → a ≡ b → ⊥
beq_false true true e p = true≢false e
beq_false true false e p = true≢false p
beq_false false true e p = false≢true p
beq_false false false e p = true≢false e

-- j, in the run of m, is next to be compared with i: none before it names the same
pub record Compared (s : Shape) (i j m : ℕ) : Type 0 where
  pub within : j ≤ i
  pub stands : Stands s j m
  pub past : (k : ℕ) → k < j → named s k ≡ named s i → ⊥

-- the entries at j, in the run of m, and at i, in the run of n, as the code compares them
abbrev pub Alike : Shape → ℕ → ℕ → ℕ → ℕ → Type 0
Alike s i n j m = (get_or s.entries j 0 ≡ get_or s.entries i 0) × (eqb (level_of s m) 1 ≡ eqb (level_of s n) 1)

pub compared_first : {s : Shape} {i : ℕ} → Runs s → i < s.listed → Compared s i 0 0
compared_first r l = record { within = omega arith; stands = stands_first r (omega arith); past = below_none _ }

-- i is new
pub compared_all : {s : Shape} {i j m : ℕ} → Compared s i j m → i ≤ j → New s i
compared_all h e = λ k b. h.past k (omega arith)

module _ {s : Shape} {i n j m : ℕ} (r : Runs s) (g : Walked s (New s) i n) (l : i < s.listed) (h : Compared s i j m) (b : j < i) where
  pub compared_more : (Alike s i n j m → ⊥) → Compared s i (j + 1) (moved (end_of s m) m (j + 1))
  compared_more u = record {
    within = omega arith;
    stands = stands_next r j m h.stands (omega arith);
    past = below_more _ j h.past differ;
  }
    where
      differ : named s j ≡ named s i → ⊥
      differ p =
          let q = thing_inj _ _ _ _ (sym (named_is r j m h.stands) ∙ p ∙ named_is r i n (g.stands l)) in
          u (q.1, q.0)

  pub repeated : Alike s i n j m → says 24 i ≡ verdict (rule24 s ∷ [])
  repeated u = breaks_at (rule24 s) refl [] i l g.past (λ new. new j b same)
    where
      same : named s j ≡ named s i
      same = named_is r j m h.stands ∙ ap₂ thing u.1 u.0 ∙ sym (named_is r i n (g.stands l))

pub none_repeated : {s : Shape} {i n : ℕ} → Walked s (New s) i n → s.listed ≤ i → says 0 0 ≡ verdict (rule24 s ∷ [])
none_repeated {s} g e = holds_all (rule24 s) refl (λ k b. g.past k (omega arith))

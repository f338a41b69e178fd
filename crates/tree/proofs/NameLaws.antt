-- Rule 23 by a walk over the entry list.
-- Assumes nothing.
use mathlib.Core.Path.{◌≡◌, refl}
use mathlib.Core.List.{[], ◌∷◌}
use mathlib.Core.Logic.Iff
use mathlib.Core.Logic.{◌↔◌}
use Prim.Native.Nat.{ℕ, suc, ◌+◌, ◌≤◌, ◌<◌}
use native.Mathlib.Omega.{arith}
use borrow.Author.Tests.{eq-eqb, ne_eqb}
use lib.Dec.{eqb}
use lib.ListN.{get_or}
use Rattle.verdict.specs.Rules.{Holds, verdict, says}
use Rattle.verdict.proofs.RuleLaws.{breaks_at, holds_all}
use Rattle.tree.specs.Tree.{Shape, level_of, end_of, owner, Thing, place, node, thing, named}
use Rattle.tree.specs.Rules.{MayName, rule23}
use Rattle.tree.specs.Lent.{moved}
use Rattle.tree.proofs.OwnerLaws.{Runs, Walked, owner_is, walked_more}

-- what the code tests, with the level l of the node in whose run an entry e stands
abbrev pub Tested : ℕ → Shape → ℕ → ℕ → Type 0
Tested p s l e = MayName p s l (thing (eqb l 1) e)

pub tested_place : (p : ℕ) (s : Shape) (l e : ℕ) → l ≡ 1 → Tested p s l e ↔ (e < p)
tested_place p s l e h = rw (eq-eqb l 1 h) Iff.rfl

pub tested_node : (p : ℕ) (s : Shape) (l e : ℕ) → (l ≡ 1 → ⊥) → Tested p s l e ↔ ((1 ≤ e) × ((e < s.nodes) × (suc (level_of s e) ≡ l)))
tested_node p s l e h = rw (ne_eqb l 1 h) Iff.rfl

-- what rule 23 asks at i
abbrev pub Names : ℕ → Shape → ℕ → Type 0
Names p s i = MayName p s (level_of s (owner s i)) (named s i)

-- the walk has read the entry e at i, and the level l of the node n in whose run it stands
pub record Reading (p : ℕ) (s : Shape) (i n l e : ℕ) : Type 0 where
  pub runs : Runs s
  pub walked : Walked s (Names p s) i n
  pub listed : i < s.listed
  pub level : l ≡ level_of s n
  pub entry : e ≡ get_or s.entries i 0

module _ {p : ℕ} {s : Shape} {i n l e : ℕ} (g : Reading p s i n l e) where
  names_is : ◌≡◌ {A = Type 0} (Names p s i) (Tested p s l e)
  names_is = rw (g.level, g.entry, owner_is g.runs i n (g.walked.stands g.listed))

  pub well_named : Tested p s l e → Walked s (Names p s) (i + 1) (moved (end_of s n) n (i + 1))
  well_named h = walked_more g.runs (Names p s) g.walked g.listed (rw names_is h)

  pub misnamed : (Tested p s l e → ⊥) → says 23 i ≡ verdict (rule23 p s ∷ [])
  misnamed h = breaks_at (rule23 p s) refl [] i g.listed g.walked.past (λ q. h (rw names_is at q))

pub all_named : (p : ℕ) {s : Shape} {i n : ℕ} → Walked s (Names p s) i n → s.listed ≤ i → says 0 0 ≡ verdict (rule23 p s ∷ [])
all_named p {s} g e = holds_all (rule23 p s) refl (λ k b. g.past k (omega arith))

-- over more places more may be named
may_more : {p q : ℕ} (s : Shape) (l : ℕ) (x : Thing) → p ≤ q → MayName p s l x → MayName q s l x
may_more s l (place r) h m = omega arith
may_more s l (node n) h m = m

pub names_more : (p q : ℕ) (s : Shape) → p ≤ q → Holds (rule23 p s) → Holds (rule23 q s)
names_more p q s h names i a b = may_more s (level_of s (owner s i)) (named s i) h (names i a b)

-- In a tree that meets the rules 21 to 24 every place and every node but the root is below the root: there are no orphans.
-- Assumes nothing.
use mathlib.Core.Path.{◌≡◌, refl, sym, ap, subst, ◌∙◌}
use mathlib.Core.Bool.{Bool, true, false}
use Prim.Native.Nat.{ℕ, zero, suc, ◌+◌, ◌-◌, ◌≤◌, ◌<◌}
use native.Mathlib.Decide.{ℕ_discrete}
use native.Mathlib.Omega.{arith}
use borrow.Author.Tests.{eqb-true}
use lib.Dec.{eqb}
use lib.ListN.{get_or}
use Rattle.tree.specs.Tree.{Shape, Stands, level_of, owner, Thing, place, node, thing, named, level, Below, here, through}
use Rattle.tree.specs.Rules.{MayName, New}
use Rattle.tree.proofs.OwnerLaws.{Runs, owner_stands, owner_is, run_within}
use Rattle.tree.proofs.NameLaws.{Names}
use Rattle.tree.proofs.Pigeonholes.{Into, hit}

-- what the rules 21 to 24 say of how a tree over p places hangs together
pub record Linked (p : ℕ) (s : Shape) : Type 0 where
  pub empty : s.nodes ≡ 0 → p ≡ 0
  pub all : s.listed ≡ p + s.nodes - 1
  pub runs : Runs s
  pub names : (i : ℕ) → i < s.listed → Names p s i
  pub new : (i : ℕ) → i < s.listed → New s i

-- x is named at i, in the run of n
pub record Parent (s : Shape) (x : Thing) : Type 0 where
  pub n : ℕ
  pub i : ℕ
  pub stands : Stands s i n
  pub inside : i < s.listed
  pub is : named s i ≡ x

-- the things other than the root
abbrev pub Known : ℕ → Shape → Thing → Type 0
Known p s (place q) = q < p
Known p s (node n) = (1 ≤ n) × (n < s.nodes)

known_of : (p : ℕ) (s : Shape) (l : ℕ) (x : Thing) → MayName p s l x → Known p s x
known_of p s l (place q) m = m
known_of p s l (node n) m = (m.0, m.1.0)

-- places first, then nodes from 1: each its own number below p + nodes - 1
key : ℕ → Thing → ℕ
key p (place q) = q
key p (node n) = p + n - 1

key_below : (p : ℕ) (s : Shape) (x : Thing) → 1 ≤ s.nodes → Known p s x → key p x < p + s.nodes - 1
unfolding key
key_below p s (place q) l k = omega arith
key_below p s (node n) l k = omega arith

key_inj : (p : ℕ) (s : Shape) (x y : Thing) → Known p s x → Known p s y → key p x ≡ key p y → x ≡ y
unfolding key
key_inj p s (place q) (place r) k l e = ap place e
key_inj p s (place q) (node n) k l e = absurd (omega arith)
key_inj p s (node n) (place q) k l e = absurd (omega arith)
key_inj p s (node n) (node m) k l e = ap node (omega arith)

module _ {p : ℕ} {s : Shape} (m : Linked p s) where
  pub known : (i : ℕ) → i < s.listed → Known p s (named s i)
  known i l = known_of p s (level_of s (owner s i)) (named s i) (m.names i l)

  -- a tree of no nodes has no entries and no places
  some : 1 ≤ p + s.listed → 1 ≤ s.nodes
  some h = go (ℕ_discrete s.nodes 0)
    where
      go : Dec (s.nodes ≡ 0) → 1 ≤ s.nodes
      go (yes e) = omega (arith, m.empty e, m.all)
      go (no n) = omega arith

  some_known : (x : Thing) → Known p s x → 1 ≤ s.nodes
  some_known (place q) k = some (omega arith)
  some_known (node n) k = omega arith

  keys : Into (λ i. key p (named s i)) s.listed s.listed
  keys = record {
    below = λ i l. omega (arith, key_below p s (named s i) (some (omega arith)) (known i l), m.all);
    apart = λ i j l b e. m.new j b i l (key_inj p s (named s i) (named s j) (known i (omega arith)) (known j b) e);
  }

  -- everything but the root is named: as many things as entries, no two alike
  pub parent : (x : Thing) → Known p s x → Parent s x
  parent x k = record { n = owner s i; i = i; stands = owner_stands m.runs i f.1.0; inside = f.1.0; is = key_inj p s (named s i) x (known i f.1.0) k f.1.1 }
    where
      f : (i : ℕ) × ((i < s.listed) × (key p (named s i) ≡ key p x))
      f = hit (λ i. key p (named s i)) s.listed keys (key p x) (omega (arith, key_below p s x (some_known x k) k, m.all))

      i : ℕ
      i = f.0

  -- an entry is exactly one level lower than its node
  pub one_lower : (i n : ℕ) → Stands s i n → suc (level s (named s i)) ≡ level_of s n
  one_lower i n t =
      go (level_of s (owner s i)) (eqb (level_of s (owner s i)) 1) refl (m.names i (omega (arith, t.high, run_within m.runs n t.node)))
      ∙ ap (level_of s) (owner_is m.runs i n t)
    where
      go : (v : ℕ) (b : Bool) → eqb v 1 ≡ b → MayName p s v (thing b (get_or s.entries i 0)) → suc (level s (thing b (get_or s.entries i 0))) ≡ v
      go v true q h = sym (eqb-true v 1 q)
      go v false q h = h.1.1

  up : (y x : Thing) (q : Parent s x) → Below s y x → Below s y (node q.n)
  up y x q h = through q.n q.i q.stands (subst (Below s y) (sym q.is) h)

  -- a chain can be followed up, a level higher at each step, and there are six levels
  climb : (y : Thing) (k n : ℕ) → n < s.nodes → 7 ≤ k + level_of s n → Below s y (node n) → Below s y (node 0)
  climb y zero n l b h = absurd (omega (arith, (m.runs.shaped n l).level_high))
  climb y (suc k) zero l b h = h
  climb y (suc k) (suc n) l b h =
      let q = parent (node (suc n)) (omega arith, l) in
      let e : suc (level_of s (suc n)) ≡ level_of s q.n = subst (λ (x : Thing). suc (level s x) ≡ level_of s q.n) q.is (one_lower q.i q.n q.stands) in
      climb y k q.n q.stands.node (omega arith) (up y (node (suc n)) q h)

  pub below_root : (x : Thing) → Known p s x → Below s x (node 0)
  below_root x k = let q = parent x k in climb x 7 q.n q.stands.node (omega arith) (up x x q here)

-- what passes from an entry to its node passes up a chain
abbrev Passing : Shape → (Thing → Type 0) → Type 0
Passing s Q = (n i : ℕ) → Stands s i n → Q (named s i) → Q (node n)

pub up_chain : {s : Shape} (Q : Thing → Type 0) → Passing s Q → {y x : Thing} → Below s y x → Q y → Q x
up_chain Q passes here q = q
up_chain Q passes (through n i t h) q = passes n i t (up_chain Q passes h q)

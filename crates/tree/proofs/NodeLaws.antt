-- What a node's run says, as the code works it out from the columns.
-- Assumes nothing.
use mathlib.Core.Path.{◌≡◌, sym, ap, subst}
use mathlib.Core.Bool.{true, false}
use mathlib.Core.List.{List}
use Prim.Native.Nat.{ℕ, ◌+◌, ◌-◌, ◌≤◌, ◌<◌}
use native.Mathlib.Omega.{arith}
use borrow.Author.Count.{below_more, below_none}
use borrow.Author.Tests.{eqb-true, eqb-false}
use lib.Dec.{eqb}
use lib.ListN.{get_or, length}
use Rattle.plane.proofs.RunLaws.{joined_same}
use Rattle.verdict.specs.Rules.{Holds}
use Rattle.tree.specs.Tree.{Shape, Stands, level_of, start_of, count_of, end_of, Thing, joined_run}
use Rattle.tree.specs.Rules.{rule23}
use Rattle.tree.specs.Lent.{InRun, run_says}
use Rattle.tree.proofs.OwnerLaws.{Runs, named_is, run_within, owner_is}
use Rattle.tree.proofs.NameLaws.{tested_place, tested_node, Tested}

-- a walk over the nodes has come to n, and P holds of each passed
pub record Nodes (s : Shape) (P : ℕ → Type 0) (n : ℕ) : Type 0 where
  pub within : n ≤ s.nodes
  pub past : (k : ℕ) → k < n → P k

pub nodes_none : (s : Shape) (P : ℕ → Type 0) → Nodes s P 0
nodes_none s P = record { within = omega arith; past = below_none P }

pub nodes_more : (s : Shape) (P : ℕ → Type 0) (n : ℕ) → Nodes s P n → n < s.nodes → P n → Nodes s P (n + 1)
nodes_more s P n g l h = record { within = omega arith; past = below_more P n g.past h }

-- a run of entries below m is one of entries below more
pub wider : {m k : ℕ} {entries : List ℕ} {from count : ℕ} → m ≤ k → InRun m entries from count → InRun k entries from count
wider l r = record { some = r.some; inside = r.inside; known = λ i a b. omega (arith, r.known i a b) }

module _ {s : Shape} (r : Runs s) (n : ℕ) (l : n < s.nodes) where
  -- an index of the run's join stands in the run
  pub stands_joined : (i : ℕ) → start_of s n ≤ i → i ≤ start_of s n + (count_of s n - 1) → Stands s i n
  stands_joined i a b = record { node = l; low = a; high = omega (arith, (r.shaped n l).count_low) }

  pub run_says_lem : {A : Type 0} (op : A → A → A) (f : Thing → A) → run_says op f (eqb (level_of s n) 1) s.entries (start_of s n) (count_of s n) ≡ joined_run op f s n
  run_says_lem op f = joined_same op _ _ (start_of s n) (count_of s n - 1) (λ i a b. sym (ap f (named_is r i n (stands_joined i a b))))

  module _ (p : ℕ) (names : Holds (rule23 p s)) (fits : s.listed ≤ length s.entries) where
    tested : (i : ℕ) → start_of s n ≤ i → i < end_of s n → Tested p s (level_of s n) (get_or s.entries i 0)
    tested i a b =
        subst (λ (k : ℕ). Tested p s (level_of s k) (get_or s.entries i 0)) (owner_is r i n (record { node = l; low = a; high = b }))
        (names i (omega arith) (omega (arith, run_within r n l)))

    -- the entries of a leaf are places, those of another node are nodes
    pub leaf_in : eqb (level_of s n) 1 ≡ true → InRun p s.entries (start_of s n) (count_of s n)
    leaf_in e = record {
      some = (r.shaped n l).count_low;
      inside = omega (arith, run_within r n l);
      known = λ i a b. (tested_place p s (level_of s n) (get_or s.entries i 0) (eqb-true _ _ e)).0 (tested i a b);
    }

    pub node_in : eqb (level_of s n) 1 ≡ false → InRun s.nodes s.entries (start_of s n) (count_of s n)
    node_in e = record {
      some = (r.shaped n l).count_low;
      inside = omega (arith, run_within r n l);
      known = λ i a b. ((tested_node p s (level_of s n) (get_or s.entries i 0) (eqb-false _ _ e)).0 (tested i a b)).1.0;
    }

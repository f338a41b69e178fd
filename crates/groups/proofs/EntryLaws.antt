-- The entries of a node's run, in a tree that passes the check.
-- Assumes nothing.
use mathlib.Core.Path.{◌≡◌, sym, subst, ◌∙◌, ap}
use mathlib.Core.Bool.{Bool, true, false, true≢false}
use Prim.Native.Nat.{ℕ, suc, ◌+◌, ◌≤◌, ◌<◌}
use native.Mathlib.Omega.{arith}
use lib.ListN.{length}
use Rattle.plane.specs.Plane.{Within, Ranged}
use Rattle.table.specs.Table.{Table, places}
use Rattle.table.proofs.TableLaws.{valid_even, valid_ranged}
use Rattle.tree.specs.Tree.{Tree, Stands, start_of, count_of, level_of, Thing, place, node, thing, named, level, box_of}
use Rattle.tree.proofs.OwnerLaws.{named_is, run_within}
use Rattle.tree.proofs.BelowLaws.{known}
use Rattle.tree.proofs.TreeLaws.{Meets, meets_of, linked, entry_level}
use Rattle.tree.proofs.TreeLaws as tree_laws
use Rattle.tree.proofs.RangeLaws.{node_ranged}
use Rattle.closest.specs.Candidate.{entry}
use Rattle.closest.proofs.EntryLaws.{known_good}
use Rattle.groups.specs.Members.{Real, Passes}

module _ {t : Table} {tree : Tree} (p : Passes t tree) where
  pub meets : Meets t tree
  meets = meets_of t tree p.passes

  -- the box of a thing that there is is in range
  pub ranged : (x : Thing) → Real t tree x → Ranged (box_of t tree.sides x)
  ranged (place q) r = valid_ranged p.sound q r
  ranged (node n) r = node_ranged p.sound meets n r

  -- a node has a level, a place none
  pub node_high : (n : ℕ) → n < tree.shape.nodes → 1 ≤ level_of tree.shape n
  node_high n l = (meets.runs.shaped n l).level_low

  -- where columns are read for a thing that there is
  pub record Reads (leaf : Bool) (e : ℕ) : Type 0 where
    pub small : e < 65536
    pub place : leaf ≡ true → (e < length t.x) × ((e < length t.y) × (e < length t.kit))
    pub node : leaf ≡ false → e < tree.shape.nodes

  pub reads_of : (leaf : Bool) (e : ℕ) → Real t tree (thing leaf e) → Reads leaf e
  reads_of true e r = let v = valid_even p.sound in record { small = omega (arith, v.few); place = λ _. (r, (omega (arith, v.y), omega (arith, v.kit))); node = λ u. absurd (true≢false u) }
  reads_of false e r = record { small = omega (arith, meets.counted.few); place = λ u. absurd (true≢false (sym u)); node = λ _. r }

  module _ (n k : ℕ) (l : n < tree.shape.nodes) (b : k < count_of tree.shape n) where
    stands : Stands tree.shape (start_of tree.shape n + k) n
    stands = record { node = l; low = omega arith; high = omega arith }

    entry_named : named tree.shape (start_of tree.shape n + k) ≡ entry tree.shape n k
    entry_named = named_is meets.runs (start_of tree.shape n + k) n stands

    listed : start_of tree.shape n + k < tree.shape.listed
    listed = omega (arith, run_within meets.runs n l)

    pub entry_lower : level_of tree.shape n ≡ suc (level tree.shape (entry tree.shape n k))
    entry_lower = sym (entry_level meets (start_of tree.shape n + k) n stands) ∙ ap (λ (x : Thing). suc (level tree.shape x)) entry_named

    pub entry_within : Within (box_of t tree.sides (entry tree.shape n k)) (box_of t tree.sides (node n))
    entry_within = subst (λ (x : Thing). Within (box_of t tree.sides x) (box_of t tree.sides (node n))) entry_named (tree_laws.entry_within meets (start_of tree.shape n + k) n stands)

    pub entry_real : Real t tree (entry tree.shape n k)
    entry_real = subst (Real t tree) entry_named (known_good (places t) tree.shape (named tree.shape (start_of tree.shape n + k)) (known (linked meets) (start_of tree.shape n + k) listed))

    pub entry_listed : start_of tree.shape n + k < length tree.shape.entries
    entry_listed = omega (arith, listed, meets.counted.room.entries)

    pub entry_few : start_of tree.shape n + k < 65536
    entry_few = omega (arith, listed, meets.counted.all, meets.counted.few, (valid_even p.sound).few)

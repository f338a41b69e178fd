-- What a tree that passes the check is good for.
-- Assumes nothing.
use mathlib.Core.Path.{◌≡◌}
use mathlib.Core.Bool.{true}
use Prim.Native.Nat.{ℕ, suc, ◌<◌}
use native.Mathlib.Omega.{arith}
use Rattle.plane.specs.Plane.{Within}
use Rattle.plane.proofs.BoxLaws.{within_self, within_trans}
use Rattle.kit.specs.Kit.{held}
use Rattle.table.specs.Table.{Table, places}
use Rattle.verdict.specs.Rules.{AllHold}
use Rattle.tree.specs.Tree.{Tree, Stands, Thing, place, node, named, level, level_of, box_of, kit_of, Below}
use Rattle.tree.specs.Rules.{lengths, Counted, New, Boxed, Kitted, tree_rules}
use Rattle.tree.proofs.OwnerLaws.{Runs}
use Rattle.tree.proofs.NameLaws.{Names}
use Rattle.tree.proofs.BelowLaws.{Linked, below_root, one_lower, up_chain}
use Rattle.tree.proofs.KeptLaws.{boxes_rise, kinds_rise, kinds_from_lem, Holder}

-- the rules 21 to 26, by name
pub record Meets (t : Table) (tree : Tree) : Type 0 where
  pub counted : Counted (places t) tree.shape.nodes tree.shape.listed (lengths tree)
  pub runs : Runs tree.shape
  pub names : (i : ℕ) → i < tree.shape.listed → Names (places t) tree.shape i
  pub new : (i : ℕ) → i < tree.shape.listed → New tree.shape i
  pub boxed : (n : ℕ) → n < tree.shape.nodes → Boxed t tree.sides tree.shape n
  pub kitted : (n : ℕ) → n < tree.shape.nodes → Kitted t tree.kits tree.shape n

module _ (t : Table) (tree : Tree) where
  pub meets_of : AllHold (tree_rules t tree) → Meets t tree
  meets_of h = record {
    counted = h.0 0 (omega arith) (omega arith);
    runs = record { shaped = λ n l. h.1.0 n (omega arith) (omega arith); ended = h.1.1.0 tree.shape.nodes (omega arith) (omega arith) };
    names = λ i l. h.1.1.1.0 i (omega arith) (omega arith);
    new = λ i l. h.1.1.1.1.0 i (omega arith) (omega arith);
    boxed = λ n l. h.1.1.1.1.1.0 n (omega arith) (omega arith);
    kitted = λ n l. h.1.1.1.1.1.1.0 n (omega arith) (omega arith);
  }

  pub of_meets : Meets t tree → AllHold (tree_rules t tree)
  of_meets m = (
    λ _ _ _. m.counted,
    (
      λ n _ l. m.runs.shaped n (omega arith),
      (λ _ _ _. m.runs.ended, (λ i _ l. m.names i (omega arith), (λ i _ l. m.new i (omega arith), (λ n _ l. m.boxed n (omega arith), (λ n _ l. m.kitted n (omega arith), tt))))),
    ),
  )

-- what the walk uses
module _ {t : Table} {tree : Tree} (m : Meets t tree) where
  pub linked : Linked (places t) tree.shape
  linked = record { empty = m.counted.empty.0; all = m.counted.all; runs = m.runs; names = m.names; new = m.new }

  -- every place is below the root by a chain of runs
  pub place_below_root : (p : ℕ) → p < places t → Below tree.shape (place p) (node 0)
  place_below_root p l = below_root linked (place p) l

  -- each entry is exactly one level lower than its node
  pub entry_level : (i n : ℕ) → Stands tree.shape i n → suc (level tree.shape (named tree.shape i)) ≡ level_of tree.shape n
  entry_level = one_lower linked

  -- an entry's box lies in its node's box, and so does all that is below
  pub entry_within : (i n : ℕ) → Stands tree.shape i n → Within (box_of t tree.sides (named tree.shape i)) (box_of t tree.sides (node n))
  entry_within i n = boxes_rise (box_of t tree.sides) tree.shape m.boxed n i

  pub below_within : {y x : Thing} → Below tree.shape y x → Within (box_of t tree.sides y) (box_of t tree.sides x)
  below_within {y} b = up_chain (λ x. Within (box_of t tree.sides y) (box_of t tree.sides x)) (λ n i s h. within_trans h (entry_within i n s)) b (within_self (box_of t tree.sides y))

  -- a kind is held by a node exactly where some entry of its run holds it, and so by all above
  pub node_holds : (k i n : ℕ) → Stands tree.shape i n → held (kit_of t tree.kits (named tree.shape i)) k ≡ true → held (kit_of t tree.kits (node n)) k ≡ true
  node_holds k i n = kinds_rise (kit_of t tree.kits) tree.shape m.runs m.kitted k n i

  pub entry_holds : (k n : ℕ) → n < tree.shape.nodes → held (kit_of t tree.kits (node n)) k ≡ true → Holder (kit_of t tree.kits) tree.shape m.runs m.kitted k n
  entry_holds k n = kinds_from_lem (kit_of t tree.kits) tree.shape m.runs m.kitted k n

  pub above_holds : (k : ℕ) {y x : Thing} → Below tree.shape y x → held (kit_of t tree.kits y) k ≡ true → held (kit_of t tree.kits x) k ≡ true
  above_holds k b h = up_chain (λ x. held (kit_of t tree.kits x) k ≡ true) (λ n i s. node_holds k i n s) b h

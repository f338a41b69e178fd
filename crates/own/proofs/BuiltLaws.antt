-- Our tree in lent columns: what the builder leaves, and its used part.
-- Assumes nothing.
use mathlib.Core.Path.{◌≡◌, refl, ap, ap₂, subst, ◌∙◌}
use mathlib.Core.List.{List, [], ◌++◌, append-nil}
use Prim.Native.Nat.{ℕ, ◌≤◌}
use native.Mathlib.Omega.{arith}
use lib.ListN.{length, take, drop}
use lib.Seq.{take_at, drop-nil}
use Rattle.table.specs.Table.{Table, places, Valid}
use Rattle.table.proofs.TableLaws.{valid_even}
use Rattle.tree.specs.Tree.{Tree}
use Rattle.tree.specs.Lent.{shape, sides, tree}
use Rattle.tree.specs.Rules.{Room, lengths, tree_rules}
use Rattle.verdict.specs.Rules.{Verdict, AllHold, verdict, says}
use Rattle.verdict.specs.Numbers.{number}
use Rattle.verdict.specs.declared.Refusal.{Refusal}
use Rattle.verdict.proofs.RuleLaws.{all_hold}
use Rattle.order.proofs.TabLaws.{length_tab}
use Rattle.groups.specs.Members.{Passes}
use Rattle.levels.specs.Levels.{nodes, listed}
use Rattle.levels.specs.Built.{built, column, entries_of}
use Rattle.build.specs.Room.{build_rules, over, written_over}
use Rattle.levels.proofs.LevelLaws.{nodes_few, listed_is}
use Rattle.levels.proofs.LaidLaws.{length_entries}
use Rattle.own.specs.Own.{used}
use Rattle.verdict.proofs.SaidLaws.{numbered}
use Rattle.build.proofs.PassLaws.{built_passes}

over_nothing : {A : Type 0} (l : List A) → over l [] ≡ l
over_nothing l = ap₂ ◌++◌ (refl {a = l}) (drop-nil (length l)) ∙ append-nil l

used_column : {A : Type 0} (t : Table) (f : ℕ → A) (before : List A) → take (nodes (places t)) (over (column t f) before) ≡ column t f
used_column t f before = take_at (column t f) _ (nodes (places t)) (length_tab f (nodes (places t)))

used_over : (t : Table) → places t ≤ 4096 → (before : Tree) → used (written_over (built t) before) ≡ built t
used_over t few before = rw (used_column t, used_column t, used_column t, used_column t, used_column t, used_column t, used_column t, used_column t, take_at (entries_of t) (drop (length (entries_of t)) before.shape.entries) (listed (places t)) (length_entries t few))

abbrev nothing : Tree
nothing = tree (shape 0 0 [] [] [] []) (sides [] [] [] []) []

-- the builder's tree passes the check in columns of its own length
pub built_sound : (t : Table) → Valid t → Passes t (built t)
built_sound t v =
    let e : written_over (built t) nothing ≡ built t = rw (over_nothing, over_nothing, over_nothing, over_nothing, over_nothing, over_nothing, over_nothing, over_nothing, over_nothing) in
    record { sound = v; passes = subst (λ (w : Tree). AllHold (tree_rules t w)) e (built_passes t v nothing) }

module _ {t : Table} (v : Valid t) (before : Tree) (room : Room 273 4368 (lengths before)) where
  -- 273 nodes and 4,368 entries are room for every table
  enough : Room (nodes (places t)) (listed (places t)) (lengths before)
  enough =
      let few = (valid_even v).few in
      let n = nodes_few (places t) few in
      record {
        level = omega (arith, room.level);
        start = omega (arith, room.start);
        count = omega (arith, room.count);
        entries = omega (arith, room.entries, listed_is (places t) few);
        x_lo = omega (arith, room.x_lo);
        x_hi = omega (arith, room.x_hi);
        y_lo = omega (arith, room.y_lo);
        y_hi = omega (arith, room.y_hi);
        kits = omega (arith, room.kits);
      }

  -- so the builder refuses nothing
  allowed : verdict (build_rules t (lengths before)) ≡ says 0 0
  allowed = all_hold (build_rules t (lengths before)) (v.0, (v.1.0, (λ _ _ _. enough, tt)))

  pub none_refused : (e : Refusal) → says (number e.reason) e.at ≡ verdict (build_rules t (lengths before)) → ⊥
  none_refused e h = numbered e.reason (ap (λ (w : Verdict). w.code) (h ∙ allowed))

  -- and its tree stands in the columns, of which the used part is our tree
  module _ {after : Tree} (left : after ≡ written_over (built t) before) where
    pub used_built : used after ≡ built t
    used_built = ap used left ∙ used_over t (valid_even v).few before

    pub nodes_wide : after.shape.nodes ≤ 273
    nodes_wide = omega (arith, ap (λ (w : Tree). w.shape.nodes) left, nodes_few (places t) (valid_even v).few)

    pub listed_wide : after.shape.listed ≤ 4368
    listed_wide =
        let few = (valid_even v).few in
        omega (arith, ap (λ (w : Tree). w.shape.listed) left, listed_is (places t) few, nodes_few (places t) few)

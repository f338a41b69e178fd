-- What the builder answers, and the lent columns afterwards.
-- Assumes nothing.
use mathlib.Core.Path.{◌≡◌, refl, ◌∙◌}
use mathlib.Core.List.{List, [], ◌∷◌, ◌++◌}
use Prim.Native.Nat.{ℕ}
use native.Mathlib.Omega.{arith}
use lib.IntN.{ℤ}
use lib.ListN.{drop}
use Rattle.order.specs.Order.{Plotted}
use Rattle.order.specs.Tab.{tab}
use Rattle.order.proofs.TabLaws.{length_tab}
use Rattle.table.specs.Table.{Table, places, Valid}
use Rattle.table.proofs.TableLaws.{valid_even, valid_ranged}
use Rattle.tree.specs.Tree.{Tree}
use Rattle.tree.specs.Lent.{shape, sides, tree}
use Rattle.tree.specs.Rules.{Room}
use Rattle.tree.specs.declared.Lengths.{Lengths}
use Rattle.verdict.specs.Rules.{Holds, verdict, says}
use Rattle.verdict.proofs.RuleLaws.{breaks_at, holds_all}
use Rattle.levels.specs.Levels.{nodes, listed, level_at, start_at, count_at}
use Rattle.levels.specs.Built.{box_at, kit_at, entries_of, column, built}
use Rattle.build.specs.Room.{rule41, Needs, over, written_over}
use Rattle.levels.proofs.LaidLaws.{length_entries}

-- a valid table can be put in order
pub plotted : {t : Table} → Valid t → Plotted t.x t.y
plotted v = let e = valid_even v in record { few = e.few; even = e.y; x = λ p l. (valid_ranged v p l).x.lo; y = λ p l. (valid_ranged v p l).y.lo }

module _ {t : Table} {k j : ℕ} (n : Needs t k j) where
  -- rule 41 asks for that room
  pub no_room : (l : Lengths) → (Room k j l → ⊥) → says 41 0 ≡ verdict (rule41 t l ∷ [])
  no_room l h = breaks_at (rule41 t l) refl [] 0 (omega arith) (λ i b. absurd (omega arith)) (λ r. h (rw (n.nodes_is, n.listed_is) r))

  pub room_enough : (l : Lengths) → Room k j l → says 0 0 ≡ verdict (rule41 t l ∷ [])
  room_enough l r = holds_all (rule41 t l) refl (λ i b. rw (n.nodes_is, n.listed_is) at r)

  pub room_of : (l : Lengths) → Holds (rule41 t l) → Room k j l
  room_of l h = rw (n.nodes_is, n.listed_is) (h 0 (omega arith) (omega arith))

  -- a column that is filled has the builder's written over its start
  column_over : {A : Type 0} (f : ℕ → A) (before : List A) {after : List A} → after ≡ tab f k ++ drop k before → after ≡ over (column t f) before
  column_over f before e = e ∙ rw (length_tab f (nodes (places t)), n.nodes_is)

  entries_over : (before : List ℕ) {after : List ℕ} → after ≡ entries_of t ++ drop (listed (places t)) before → after ≡ over (entries_of t) before
  entries_over before e = e ∙ rw (length_entries t n.few)

  -- all columns filled: the builder's tree is written over what was lent
  pub written : (before : Tree) {level start count entries kits : List ℕ} {x_lo x_hi y_lo y_hi : List ℤ} →
      level ≡ tab (level_at (places t)) k ++ drop k before.shape.level → start ≡ tab (start_at (places t)) k ++ drop k before.shape.start → count ≡ tab (count_at (places t)) k ++ drop k before.shape.count →
      entries ≡ entries_of t ++ drop (listed (places t)) before.shape.entries →
      x_lo ≡ tab (λ m. (box_at t m).x.lo) k ++ drop k before.sides.x_lo → x_hi ≡ tab (λ m. (box_at t m).x.hi) k ++ drop k before.sides.x_hi →
      y_lo ≡ tab (λ m. (box_at t m).y.lo) k ++ drop k before.sides.y_lo → y_hi ≡ tab (λ m. (box_at t m).y.hi) k ++ drop k before.sides.y_hi →
      kits ≡ tab (kit_at t) k ++ drop k before.kits →
      tree (shape k j level start count entries) (sides x_lo x_hi y_lo y_hi) kits ≡ written_over (built t) before
  written before e₁ e₂ e₃ e₄ e₅ e₆ e₇ e₈ e₉ =
      rw (column_over _ _ e₁, column_over _ _ e₂, column_over _ _ e₃, entries_over _ e₄, column_over _ _ e₅, column_over _ _ e₆, column_over _ _ e₇, column_over _ _ e₈, column_over _ _ e₉, n.nodes_is, n.listed_is)

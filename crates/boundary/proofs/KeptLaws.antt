-- What was lent, by whether the answer has room; and what builder and writer leave.
-- Assumes nothing.
use mathlib.Core.Path.{◌≡◌, refl, ap, ◌∙◌}
use mathlib.Core.List.{List}
use Prim.Native.Nat.{ℕ, ◌≤◌, ◌<◌}
use native.Mathlib.Decide.{dec_le}
use native.Mathlib.Omega.{arith}
use lib.ListN.{length}
use Rattle.table.specs.Table.{Table}
use Rattle.tree.specs.Tree.{Tree}
use Rattle.verdict.specs.Rules.{Verdict}
use Rattle.build.specs.Room as build
use Rattle.rows.specs.Sheet.{Held}
use Rattle.sheet.specs.Write as sheet
use Rattle.boundary.specs.Kept.{given, build_says, build_leaves, write_says, write_leaves}

module _ {A : Type 0} (n : ℕ) (answer : List ℕ) (after before : A) where
  pub with_room : n ≤ length answer → after ≡ given n answer after before
  unfolding given
  with_room h = go (dec_le n (length answer))
    where
      go : (d : Dec (n ≤ length answer)) → after ≡ elim d [ yes _ ↦ after | no _ ↦ before ]
      go (yes _) = refl
      go (no l) = absurd (l h)

  pub without_room : length answer < n → before ≡ given n answer after before
  unfolding given
  without_room h = go (dec_le n (length answer))
    where
      go : (d : Dec (n ≤ length answer)) → before ≡ elim d [ yes _ ↦ after | no _ ↦ before ]
      go (yes l) = absurd (omega arith)
      go (no _) = refl

pub build_leaves_lem : (t : Table) (before : Tree) (v : Verdict) (after : Tree) → v ≡ build_says t before → after ≡ build.afterwards v.code t before → after ≡ build_leaves t before
build_leaves_lem t before v after e l = l ∙ ap (λ (w : Verdict). build.afterwards w.code t before) e

pub write_leaves_lem : (h : Held) (before : List ℕ) (v : Verdict) (after : ℕ × List ℕ) → v ≡ write_says h before → after ≡ sheet.afterwards v.code h before → after ≡ write_leaves h before
write_leaves_lem h before v after e l = l ∙ ap (λ (w : Verdict). sheet.afterwards w.code h before) e

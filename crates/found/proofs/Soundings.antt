-- Trial soundings of the search: a want of no kind, of nine and of eight.
-- Assumes nothing.
use mathlib.Core.Path.{◌≡◌, refl, sym, ◌∙◌}
use Prim.Native.Nat.{ℕ, ◌≤◌}
use native.Mathlib.Omega.{arith}
use lib.ListN.{length}
use Rattle.kit.specs.Kit.{kinds_from, kinds}
use Rattle.table.specs.Table.{Table}
use Rattle.tree.specs.Tree.{Tree}
use Rattle.verdict.specs.Rules.{says}
use Rattle.verdict.proofs.RuleLaws.{breaks_at, holds_on}
use Rattle.found.specs.Search.{rule1, rule2, refused, searched}
use Rattle.found.proofs.SearchLaws.{searched_fault}

no_kinds : length (kinds 0) ≡ 0
unfolding kinds kinds_from
no_kinds = refl

nine_kinds : length (kinds 511) ≡ 9
unfolding kinds kinds_from
nine_kinds = refl

eight_kinds : length (kinds 255) ≡ 8
unfolding kinds kinds_from
eight_kinds = refl

module _ (t : Table) (tree : Tree) (allowance : ℕ) where
  -- S8
  want_of_none : searched t tree 0 allowance ≡ refused 1 0
  want_of_none =
      sym (searched_fault t tree 0 allowance {v = says 1 0} (breaks_at (rule1 0) refl _ 0 (omega arith) (λ j l. absurd (omega arith)) (λ h. omega (arith, no_kinds))) (λ e. absurd (omega arith)))

  -- S9
  want_of_nine : searched t tree 511 allowance ≡ refused 2 0
  want_of_nine =
      sym (searched_fault t tree 511 allowance {v = says 2 0}
      (breaks_at (rule2 511) refl _ 0 (omega arith) (λ j l. absurd (omega arith)) (λ h. omega (arith, nine_kinds))
      ∙ holds_on (rule1 511) refl _ (λ j l. omega (arith, nine_kinds)))
      (λ e. absurd (omega arith)))

want_of_eight : length (kinds 255) ≤ 8
want_of_eight = omega (arith, eight_kinds)

-- What the rules of a table come to.
-- Assumes nothing.
use mathlib.Core.Path.{◌≡◌, refl, sym, ap₂, ◌∙◌}
use mathlib.Core.Bool.{true, false, ◌||◌}
use mathlib.Core.List.{[], ◌∷◌}
use Prim.Native.Nat.{ℕ, ◌<◌}
use native.Mathlib.Omega.{arith}
use lib.IntN.{ℤ}
use Rattle.plane.specs.Plane.{outside, point, Ranged}
use Rattle.plane.proofs.WholeLaws.{false_not_true, or_left, or_right}
use Rattle.plane.proofs.BoxLaws.{point_ranged}
use Rattle.verdict.specs.Rules.{verdict, says}
use Rattle.verdict.proofs.RuleLaws.{breaks_at, holds_on, holds_all}
use Rattle.table.specs.Table.{Table, places, box_of, Even, rule11, rule12, table_rules, Valid}

module _ (t : Table) where
  pub uneven : (Even t → ⊥) → says 11 0 ≡ verdict (table_rules t)
  uneven h = breaks_at (rule11 t) refl (rule12 t ∷ []) 0 (omega arith) (λ j b. absurd (omega arith)) h

  pub off_at : Even t → (p : ℕ) → p < places t → ((q : ℕ) → q < p → Ranged (box_of t q)) → (Ranged (box_of t p) → ⊥) → says 12 p ≡ verdict (table_rules t)
  off_at e p l past h = breaks_at (rule12 t) refl [] p l past h ∙ holds_on (rule11 t) refl (rule12 t ∷ []) (λ j b. e)

  pub no_fault : Even t → ((q : ℕ) → q < places t → Ranged (box_of t q)) → says 0 0 ≡ verdict (table_rules t)
  no_fault e all = holds_all (rule12 t) refl all ∙ holds_on (rule11 t) refl (rule12 t ∷ []) (λ j b. e)

-- what a valid table has
module _ {t : Table} (v : Valid t) where
  pub valid_even : Even t
  valid_even = v.0 0 (omega arith) (omega arith)

  pub valid_ranged : (p : ℕ) → p < places t → Ranged (box_of t p)
  valid_ranged p l = v.1.0 p (omega arith) (omega arith)

-- in range, as the code tests it
pub on : {x y : ℤ} → (outside x || outside y) ≡ false → Ranged (point x y)
on {x} {y} e = point_ranged (or_left (outside x) (outside y) e) (or_right (outside x) (outside y) e)

pub off : {x y : ℤ} → (outside x || outside y) ≡ true → Ranged (point x y) → ⊥
off e r = false_not_true (sym (ap₂ ◌||◌ r.x.lo r.y.lo) ∙ e)

-- What the writer answers, and the lent buffer afterwards.
-- Assumes nothing.
use Prim.Native.Nat.{ℕ, zero, suc, ◌+◌, ◌*◌, ◌≤◌, ◌<◌}
use mathlib.Core.Path.{◌≡◌, refl, sym, ◌∙◌}
use mathlib.Core.List.{List, [], ◌∷◌}
use native.Mathlib.Omega.{arith}
use lib.ListN.{length}
use Rattle.table.specs.Table.{Table, places, table_rules, Valid}
use Rattle.verdict.specs.Rules.{verdict, says}
use Rattle.verdict.proofs.RuleLaws.{breaks_at, holds_all, goes_on}
use Rattle.rows.specs.Sheet.{Held, sheet_bytes, asked}
use Rattle.rows.proofs.SizeLaws.{bytes_enough}
use Rattle.sheet.specs.Write.{rule54, write_rules, afterwards}

-- in a refusal all is kept
pub kept : (code : ℕ) (h : Held) (before : List ℕ) → (code ≡ 0 → ⊥) → (0, before) ≡ afterwards code h before
kept zero h before n = absurd (n refl)
kept (suc code) h before n = refl

module _ (h : Held) (room : ℕ) where
  -- rule 54 asks for the sheet's bytes
  pub too_short : room < length (sheet_bytes h) → says 54 0 ≡ verdict (rule54 h room ∷ [])
  too_short l = breaks_at (rule54 h room) refl [] 0 (omega arith) (λ j b. absurd (omega arith)) (λ r. omega arith)

  pub long_enough : length (sheet_bytes h) ≤ room → says 0 0 ≡ verdict (rule54 h room ∷ [])
  long_enough l = holds_all (rule54 h room) refl (λ j b. l)

-- 70 bytes and 54 for each place are always enough
pub never_refused : (t : Table) (want budget room : ℕ) → Valid t → budget ≤ 4294967295 → 70 + 54 * places t ≤ room → verdict (write_rules (asked t want budget) room) ≡ says 0 0
never_refused t want budget room v b l =
    goes_on (table_rules t) (rule54 (asked t want budget) room ∷ []) v ∙ sym (long_enough (asked t want budget) room (omega (arith, bytes_enough v want budget b)))

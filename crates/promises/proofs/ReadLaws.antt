-- How reading ends, and when the writer's buffer is too short.
-- Assumes nothing.
use mathlib.Core.Path.{◌≡◌, refl, sym, ap, ◌∙◌}
use mathlib.Core.List.{List, [], ◌∷◌}
use Prim.Native.Nat.{ℕ, ◌≤◌, ◌<◌}
use native.Mathlib.Decide.{dec_le, ℕ_discrete}
use native.Mathlib.Omega.{arith}
use lib.ListN.{length}
use Rattle.verdict.specs.Rules.{verdict, says, Verdict}
use Rattle.verdict.proofs.RuleLaws.{none_broken, stops, goes_on}
use Rattle.table.specs.Table.{places, table_rules, Valid}
use Rattle.lines.specs.Part.{Outcome, fault, accepted}
use Rattle.rows.specs.Sheet.{Held, sheet_bytes, read_sheet}
use Rattle.rows.proofs.SheetLaws.{read_written, written_read}
use Rattle.scan.specs.Read.{within}
use Rattle.sheet.specs.Write.{rule54, write_rules}
use Rattle.sheet.proofs.ReadingLaws.{sheet_codes}
use Rattle.sheet.proofs.WriteLaws.{too_short, long_enough}
use Rattle.promises.specs.Reports.{codes_of}
use Rattle.promises.specs.Sheets.{IsSheet, NoSheet, ReadsAs, no_sheet, no_room, a_sheet}
use Rattle.promises.proofs.ReportLaws.{codes, member_le}

-- bytes are accepted exactly where they are a sheet
pub is_sheet : (s : List ℕ) (h : Held) → read_sheet s ≡ accepted h → IsSheet s h
is_sheet s h e = let w = written_read s h e in record { writable = w.0; bytes = w.1 }

pub sheet_is : (s : List ℕ) (h : Held) → IsSheet s h → read_sheet s ≡ accepted h
sheet_is s h i = ap (λ (b : List ℕ). read_sheet b) (sym i.bytes) ∙ read_written h i.writable

-- and refused exactly where they are none
pub no_sheet_lem : (s : List ℕ) (code line : ℕ) → read_sheet s ≡ fault code line → NoSheet s
no_sheet_lem s code line e h i = let q : fault code line ≡ accepted h = sym e ∙ sheet_is s h i in let z : ◌≡◌ {A = ℕ} 0 1 = cc in omega arith

pub reads_as : (s : List ℕ) (room : ℕ) → ReadsAs s room (within room (read_sheet s))
reads_as s room = go (read_sheet s) refl
  where
    held : (h : Held) → read_sheet s ≡ accepted h → (d : Dec (places h.table ≤ room)) → elim d [ yes _ ↦ accepted h | no _ ↦ fault 54 0 ] ≡ within room (read_sheet s) → ReadsAs s room (within room (read_sheet s))
    held h e (yes l) q = a_sheet h (is_sheet s h e) l (sym q)
    held h e (no n) q = no_room h (is_sheet s h e) (omega arith) (sym q)

    go : (o : Outcome Held) → read_sheet s ≡ o → ReadsAs s room (within room (read_sheet s))
    go (fault c l) e = let b = sheet_codes s c l e in no_sheet c l (no_sheet_lem s c l e) b.0 b.1 e (ap (within room) e)
    go (accepted h) e = held h e (dec_le (places h.table) room) (sym (ap (within room) e))

-- the writer reports 54 exactly where the table is valid and the buffer is shorter than the sheet
module _ (h : Held) (room : ℕ) where
  abbrev v : Verdict
  v = verdict (table_rules h.table)

  small : v.code ≤ 12
  unfolding codes_of
  small = member_le (0 ∷ 11 ∷ 12 ∷ []) tt (codes (table_rules h.table))

  pub short_buffer : verdict (write_rules h room) ≡ says 54 0 → Valid h.table × (room < length (sheet_bytes h))
  short_buffer e = go (ℕ_discrete v.code 0) (dec_le (length (sheet_bytes h)) room)
    where
      go : Dec (v.code ≡ 0) → Dec (length (sheet_bytes h) ≤ room) → Valid h.table × (room < length (sheet_bytes h))
      go (no n) d = absurd (omega (arith, small, ap (λ (u : Verdict). u.code) (sym (stops (table_rules h.table) (rule54 h room ∷ []) n) ∙ e)))
      go (yes z) (yes l) = absurd (omega (arith, ap (λ (u : Verdict). u.code) (long_enough h room l ∙ sym (goes_on (table_rules h.table) (rule54 h room ∷ []) (none_broken (table_rules h.table) z)) ∙ e)))
      go (yes z) (no l) = (none_broken (table_rules h.table) z, omega arith)

  pub buffer_short : Valid h.table → room < length (sheet_bytes h) → verdict (write_rules h room) ≡ says 54 0
  buffer_short w l = goes_on (table_rules h.table) (rule54 h room ∷ []) w ∙ sym (too_short h room l)

-- What the program prints, for every input.
-- Assumes nothing.
use Rattle.std.specs.Prelude.{◌≡◌, List, ℕ, ◌≤◌, ◌<◌, length}
use Rattle.kit.specs.Kit.{kinds}
use Rattle.levels.specs.Built.{built}
use Rattle.closest.specs.Group.{diameter}
use Rattle.lines.specs.Text.{ascii}
use Rattle.lines.specs.Part.{fault}
use Rattle.rows.specs.Sheet.{Held, read_sheet}
use Rattle.report.specs.Answer.{found_lines, stopped_lines, refused_lines}
use Rattle.promises.specs.Answers.{Closest, NoGroup, steps_of}
use Rattle.promises.specs.Sheets.{IsSheet, NoSheet}

-- the steps of the walk over our tree of a sheet's table
abbrev pub steps_for : Held → ℕ
steps_for h = steps_of h.table (built h.table) h.want

-- the want names 1 to 8 kinds
pub record FewKinds (h : Held) : Type 0 where
  pub one : 1 ≤ length (kinds h.want)
  pub few : length (kinds h.want) ≤ 8

-- for the bytes of a sheet that holds h
pub data Answers (h : Held) (p : List ℕ) : Type 0 where
  no_kind : length (kinds h.want) ≡ 0 → p ≡ refused_lines 1 0 → Answers h p
  many_kinds : 8 < length (kinds h.want) → p ≡ refused_lines 2 0 → Answers h p
  prints_none : FewKinds h → NoGroup h.table h.want → steps_for h ≡ 0 → p ≡ stopped_lines (ascii "none") 0 → Answers h p
  prints_spent : FewKinds h → h.budget < steps_for h → p ≡ stopped_lines (ascii "spent") h.budget → Answers h p
  prints_found : FewKinds h → (g : List ℕ) → Closest h.table h.want g → steps_for h ≤ h.budget → p ≡ found_lines (diameter h.table g) (steps_for h) (kinds h.want) g → Answers h p

-- for any bytes
pub data Prints (s p : List ℕ) : Type 0 where
  too_long : 65536 < length s → p ≡ refused_lines 55 0 → Prints s p
  not_read : (code line : ℕ) → length s ≤ 65536 → NoSheet s → read_sheet s ≡ fault code line → p ≡ refused_lines code line → Prints s p
  was_read : (h : Held) → length s ≤ 65536 → IsSheet s h → Answers h p → Prints s p

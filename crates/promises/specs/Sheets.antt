-- What bytes are a sheet, and how reading them into lent columns ends.
-- Assumes nothing.
use Rattle.std.specs.Prelude.{◌≡◌, List, ℕ, ◌≤◌, ◌<◌}
use Rattle.table.specs.Table.{places}
use Rattle.lines.specs.Part.{Outcome, fault, accepted}
use Rattle.rows.specs.Sheet.{Held, Writable, read_sheet, sheet_bytes}

-- s is the sheet that holds h
pub record IsSheet (s : List ℕ) (h : Held) : Type 0 where
  pub writable : Writable h
  pub bytes : sheet_bytes h ≡ s

-- s is no sheet
abbrev pub NoSheet : List ℕ → Type 0
NoSheet s = (h : Held) → IsSheet s h → ⊥

-- the three ways in which reading s ends, where the lent columns have room for so many places
pub data ReadsAs (s : List ℕ) (room : ℕ) (o : Outcome Held) : Type 0 where
  no_sheet : (code line : ℕ) → NoSheet s → 51 ≤ code → code ≤ 53 → read_sheet s ≡ fault code line → o ≡ fault code line → ReadsAs s room o
  no_room : (h : Held) → IsSheet s h → room < places h.table → o ≡ fault 54 0 → ReadsAs s room o
  a_sheet : (h : Held) → IsSheet s h → places h.table ≤ room → o ≡ accepted h → ReadsAs s room o

-- What reading a place sheet into lent columns comes to.
-- Assumes nothing.
use Rattle.std.specs.Prelude.{ℕ, min, ◌≡◌, List, map, ℤ, length, Result, Ok, Err}
use Rattle.std.proofs.Math.Decide.{dec_le}
use Rattle.table.specs.Table.{Table, table, places}
use Rattle.lines.specs.Line.{Got, refused, got}
use Rattle.lines.specs.Part.{Outcome, fault, accepted}
use Rattle.rows.specs.Sheet.{Held, Place, x_of, y_of, word_of, read_sheet}
use Rattle.verdict.specs.declared.Refusal.{Refusal}
use Rattle.verdict.specs.Numbers.{number}
use Rattle.scan.specs.declared.Sheet.{Sheet}
use Rattle.scan.specs.Lent.{over}

-- how many places there is room for in each of the lent columns
abbrev pub room_in : List ℤ → List ℤ → List ℕ → ℕ
room_in x y kit = min (length x) (min (length y) (length kit))

-- 54 where there is room for fewer than the sheet holds, after all other faults
abbrev pub within : ℕ → Outcome Held → Outcome Held
within room (fault c l) = fault c l
within room (accepted h) = elim (dec_le (places h.table) room) [ yes _ ↦ accepted h | no _ ↦ fault 54 0 ]

-- what reading bytes into lent columns comes to
abbrev pub reading : List ℕ → List ℤ → List ℤ → List ℕ → Outcome Held
reading s x y kit = within (room_in x y kit) (read_sheet s)

abbrev pub reading_in : List ℕ → Table → Outcome Held
reading_in s t = reading s t.x t.y t.kit

-- what is told of a sheet: code 0 and at 0; or the code and the line of a refusal, where place count, want and budget are 0
pub record Told : Type 0 where
  pub code : ℕ
  pub at : ℕ
  pub places : ℕ
  pub want : ℕ
  pub budget : ℕ

abbrev pub sheet_of : Outcome Held → Told
sheet_of (fault c l) = record { code = c; at = l; places = 0; want = 0; budget = 0 }
sheet_of (accepted h) = record { code = 0; at = 0; places = places h.table; want = h.want; budget = h.budget }

-- what a result tells
abbrev pub told : Result Sheet Refusal → Told
told (Ok s) = record { code = 0; at = 0; places = s.places; want = s.want; budget = s.budget }
told (Err r) = record { code = number r.reason; at = r.at; places = 0; want = 0; budget = 0 }

-- a column afterwards: a refusal changes nothing
abbrev pub column_after : {A : Type 0} → (Held → List A) → Outcome Held → List A → List A
column_after f (fault c l) before = before
column_after f (accepted h) before = over (f h) before

-- and the three of them
abbrev pub columns_after : Outcome Held → Table → Table
columns_after o t = table (column_after (λ h. h.table.x) o t.x) (column_after (λ h. h.table.y) o t.y) (column_after (λ h. h.table.kit) o t.kit)

-- what was read, without its value
abbrev pub passed : {A : Type 0} → Got A → Got (Unit {0})
passed (refused c l) = refused c l
passed (got a rest) = got tt rest

-- what was read well
abbrev pub Fine : {A : Type 0} → Got A → Type 0
Fine (refused c l) = ⊥
Fine (got a rest) = Unit {0}

-- a column afterwards that has what the places say, if they were read well; nothing is said of it in a refusal
abbrev pub stored : {A : Type 0} → (Place → A) → Got (List Place) → List A → List A → Type 0
stored f (refused c l) before after = Unit {0}
stored f (got l rest) before after = after ≡ over (map f l) before

abbrev pub Stored : Got (List Place) → Table → Table → Type 0
Stored g t after = stored x_of g t.x after.x × (stored y_of g t.y after.y × stored word_of g t.kit after.kit)

-- the same of a whole sheet
abbrev pub column_taken : {A : Type 0} → (Held → List A) → Outcome Held → List A → List A → Type 0
column_taken f (fault c l) before after = Unit {0}
column_taken f (accepted h) before after = after ≡ over (f h) before

abbrev pub Taken : Outcome Held → Table → Table → Type 0
Taken o t after =
    column_taken (λ h. h.table.x) o t.x after.x × (column_taken (λ h. h.table.y) o t.y after.y × column_taken (λ h. h.table.kit) o t.kit after.kit)

-- The place sheet: its bytes, and what reading any bytes gives.
-- Assumes nothing.
use Rattle.std.specs.Prelude.{ℕ, ◌^◌, ◌≤◌, ◌<◌, ℤ}
use mathlib.Core.List.{List, map, zip}
use Rattle.table.specs.Table.{Table, table, places, kit_of, Valid}
use Rattle.lines.specs.Text.{ascii, decimal}
use Rattle.lines.specs.Form.{word, natural, coordinate, bits}
use Rattle.lines.specs.Part.{Part, one_line, and_then, after, before, several, viewed, Outcome, read_all}

-- what a sheet holds
pub record Held : Type 0 where
  pub table : Table
  pub want : ℕ
  pub budget : ℕ

-- what the writer is asked to write
abbrev pub asked : Table → ℕ → ℕ → Held
asked t want budget = record { table = t; want = want; budget = budget }

-- what a sheet can hold: a table that no rule refuses, words of 64 bits and a budget of 32
pub record Writable (h : Held) : Type 0 where
  pub valid : Valid h.table
  pub kits : (p : ℕ) → p < places h.table → kit_of h.table p < 2 ^ 64
  pub want : h.want < 2 ^ 64
  pub budget : h.budget ≤ 4294967295

-- a line of one fixed word
abbrev pub fixed : List ℕ → List ℕ → Part (Unit {0})
fixed key w = one_line key (word w)

-- a place on a sheet: x, y and kit word
abbrev pub Place : Type 0
Place = ℤ × (ℤ × ℕ)

abbrev pub coordinate_line : List ℕ → Part ℤ
coordinate_line key = one_line key (coordinate 1000000)

abbrev pub kit_line : Part ℕ
kit_line = one_line (ascii "kit=") bits

abbrev pub point_part : Part Place
point_part = and_then (coordinate_line (ascii "x=")) (λ _. and_then (coordinate_line (ascii "y=")) (λ _. kit_line))

-- the lines of place i: its number, x, y, kit word
unfoldable pub place_part : ℕ → Part Place
place_part i = after (fixed (ascii "place=") (decimal i)) point_part

-- the want and the budget
abbrev pub want_line : Part ℕ
want_line = one_line (ascii "want=") bits

abbrev pub budget_line : Part ℕ
budget_line = one_line (ascii "budget=") (natural 4294967295)

-- what follows the places
unfoldable pub query_part : Part (ℕ × ℕ)
query_part = before (and_then want_line (λ _. budget_line)) (fixed (ascii "end=") (ascii "sheet"))

-- the lines of all places, as many as there are said to be, and what follows them
abbrev pub count_line : Part ℕ
count_line = one_line (ascii "places=") (natural 4096)

abbrev pub body_part : Part (ℕ × (List Place × (ℕ × ℕ)))
body_part = and_then count_line (λ p. and_then (several place_part p 0) (λ _. query_part))

-- the places of a table, and the table of places
abbrev pub rows : Table → List Place
rows t = zip t.x (zip t.y t.kit)

abbrev pub x_of : Place → ℤ
x_of p = p.0

abbrev pub y_of : Place → ℤ
y_of p = p.1.0

abbrev pub word_of : Place → ℕ
word_of p = p.1.1

abbrev pub columns : List Place → Table
columns l = table (map x_of l) (map y_of l) (map word_of l)

-- what the lines say, and the lines that say it
abbrev pub held : ℕ × (List Place × (ℕ × ℕ)) → Held
held w = record { table = columns w.1.0; want = w.1.1.0; budget = w.1.1.1 }

abbrev pub counted : Held → ℕ × (List Place × (ℕ × ℕ))
counted h = (places h.table, (rows h.table, (h.want, h.budget)))

unfoldable pub sheet_part : Part Held
sheet_part = viewed held counted (after (fixed (ascii "sheet=") (ascii "1")) body_part)

-- the bytes of the sheet that holds h
unfoldable pub sheet_bytes : Held → List ℕ
unfolding sheet_part
sheet_bytes h = sheet_part.text h

-- what reading any bytes gives
unfoldable pub read_sheet : List ℕ → Outcome Held
unfolding sheet_part read_all
read_sheet s = read_all sheet_part s

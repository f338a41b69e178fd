-- The parts of a sheet as they are read: the head, and a place that is read well.
-- Assumes nothing.
use Rattle.std.specs.Prelude.{ℕ, ◌≤◌, ◌≡◌, List, length, drop}
use Rattle.lines.specs.Text.{ascii}
use Rattle.lines.specs.Line.{got}
use Rattle.lines.specs.Part.{Part, after}
use Rattle.rows.specs.Sheet.{Place as Row, fixed, place_part, count_line}
use Rattle.parts.specs.declared.Place.{Place}
use Rattle.parts.specs.declared.Query.{Query}

-- the first two lines
unfoldable pub head_part : Part ℕ
head_part = after (fixed (ascii "sheet=") (ascii "1")) count_line

-- a place and a query, as `rows` has them
abbrev pub row : Place → Row
row p = (p.x, (p.y, p.kit))

abbrev pub pair : Query → ℕ × ℕ
pair q = (q.want, q.budget)

-- the lines of place i, which begin at `at`, read well, whatever the number of the first; the next line begins at `to`
pub record PlaceReads (s : List ℕ) (at i to : ℕ) (p : Row) : Type 0 where
  pub most : to ≤ length s
  pub read : (n : ℕ) → (place_part i).read n (drop at s) ≡ got p (drop to s)

-- The bytes of a sheet in the pieces in which they are written: the head, one place after the other, the query.
-- Assumes nothing.
use Rattle.std.specs.Prelude.{ℕ, zero, suc, List, [], ◌++◌, ℤ, pos, get_or}
use Rattle.table.specs.Table.{Table, kit_of}
use Rattle.lines.specs.Text.{ascii}
use Rattle.rows.specs.Sheet.{fixed, count_line, place_part, query_part}

-- the first two lines of a sheet of p places
unfoldable pub head_text : ℕ → List ℕ
head_text p = (fixed (ascii "sheet=") (ascii "1")).text tt ++ count_line.text p

-- the four lines of place i
unfoldable pub place_text : ℕ → ℤ → ℤ → ℕ → List ℕ
unfolding place_part
place_text i x y kit = (place_part i).text (x, (y, kit))

-- those of place k of a table
abbrev pub text_at : Table → ℕ → List ℕ
text_at t k = place_text k (get_or t.x k (pos 0)) (get_or t.y k (pos 0)) (kit_of t k)

-- the lines of the first k places of a table
unfoldable pub places_text : Table → ℕ → List ℕ
places_text t zero = []
places_text t (suc k) = places_text t k ++ text_at t k

-- the last three lines
unfoldable pub query_text : ℕ → ℕ → List ℕ
unfolding query_part
query_text want budget = query_part.text (want, budget)

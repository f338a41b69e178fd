-- What the lines of want, budget and end tell, from what each tells.
-- Assumes nothing.
use Prim.Native.Nat.{ℕ, ◌+◌}
use mathlib.Core.Path.{◌≡◌}
use mathlib.Core.List.{List}
use Rattle.lines.specs.Text.{ascii}
use Rattle.lines.specs.Form.{word, natural, bits}
use Rattle.lines.specs.Line.{refused, got, read_line}
use Rattle.rows.specs.Sheet.{query_part}

-- the first line that is refused decides
module _ (n : ℕ) (s : List ℕ) where
  pub query_1 : (c l : ℕ) → read_line (ascii "want=") bits n s ≡ refused c l → query_part.read n s ≡ refused c l
  unfolding query_part
  query_1 c l e = rw e

  module _ (w : ℕ) (r : List ℕ) (e : read_line (ascii "want=") bits n s ≡ got w r) where
    pub query_2 : (c l : ℕ) → read_line (ascii "budget=") (natural 4294967295) (n + 1) r ≡ refused c l → query_part.read n s ≡ refused c l
    unfolding query_part
    query_2 c l f = rw (e, f)

    module _ (b : ℕ) (r2 : List ℕ) (f : read_line (ascii "budget=") (natural 4294967295) (n + 1) r ≡ got b r2) where
      pub query_3 : (c l : ℕ) → read_line (ascii "end=") (word (ascii "sheet")) (n + 2) r2 ≡ refused c l → query_part.read n s ≡ refused c l
      unfolding query_part
      query_3 c l g = rw (e, f, g)

      pub query_all : (r3 : List ℕ) → read_line (ascii "end=") (word (ascii "sheet")) (n + 2) r2 ≡ got tt r3 → query_part.read n s ≡ got (w, b) r3
      unfolding query_part
      query_all r3 g = rw (e, f, g)

-- A text put into a list of bytes at a place, and the text of a line.
-- Assumes nothing.
use Rattle.std.specs.Prelude.{ℕ, ◌+◌, ◌≡◌, List, ◌++◌, length, take, drop}
use Rattle.lines.specs.Form.{word}
use Rattle.lines.specs.Line.{line_text}

-- the bytes of a line: its key, the text of its value, a line feed
abbrev pub line_of : List ℕ → List ℕ → List ℕ
line_of key value = line_text key (word value) tt

-- r is the place after the text, and the list has the text there and is as it was elsewhere
pub record Puts (o : List ℕ) (at : ℕ) (t : List ℕ) (r : ℕ) (o' : List ℕ) : Type 0 where
  pub end : r ≡ at + length t
  pub bytes : o' ≡ take at o ++ t ++ drop (at + length t) o

-- What is told of a line that is read in one go.
-- Assumes nothing.
use Rattle.std.specs.Prelude.{ℕ, ◌+◌, ◌≤◌, ◌<◌, ◌≡◌, Bool, true, false, T, List, ◌++◌, length, take, drop, get_or, ℤ, pos}
use Rattle.lines.specs.Text.{minus}
use Rattle.lines.specs.Form.{Form, InForm}
use Rattle.lines.specs.Line.{fair, got, read_line}

-- a number after a minus, or after none
abbrev pub with_sign : Bool → ℕ → ℤ
with_sign false n = pos n
with_sign true n = minus n

-- t begins with the text of v, which is in form, and a line feed (10): `count` bytes
pub record Leads {A : Type 0} (f : Form A) (t : List ℕ) (count : ℕ) (v : A) : Type 0 where
  pub width : ℕ
  pub counts : count ≡ width + 1
  pub within : width < length t
  pub feed : get_or t width 0 ≡ 10
  pub form : InForm f (take width t)
  pub value : v ≡ f.value (take width t)

-- t begins with a line that reads well, whatever its number: `count` bytes, with its line feed
pub record ReadsWell {A : Type 0} (key : List ℕ) (f : Form A) (t : List ℕ) (count : ℕ) (v : A) : Type 0 where
  pub most : count ≤ length t
  pub read : (n : ℕ) → read_line key f n t ≡ got v (drop count t)

-- behind any fair key, `count` bytes of t make a line that reads well
abbrev pub Follows : {A : Type 0} → Form A → List ℕ → ℕ → A → Type 0
Follows f t count v = (key : List ℕ) → T (fair key) → ReadsWell key f (key ++ t) (length key + count) v

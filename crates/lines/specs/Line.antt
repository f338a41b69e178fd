-- Lines `key=value`, and what a reader makes of one.
-- Assumes nothing.
use Rattle.std.specs.Prelude.{ℕ, zero, suc, ◌≡◌, Bool, true, not, ◌&&◌, List, [], ◌∷◌, ◌++◌, eqb, leb, length, take, drop}
use Rattle.std.proofs.Math.Decide.{ℕ_discrete}
use Rattle.lines.specs.Form.{Form, InForm, in_form, same}

-- the line that bytes begin with: its text, and the bytes after its line feed
pub data Cut : Type 0 where
  line : List ℕ → List ℕ → Cut
  none : Cut

abbrev pub onto : ℕ → Cut → Cut
onto c (line t rest) = line (c ∷ t) rest
onto c none = none

-- there is none where no line feed (10) stands after at most `room` bytes
unfoldable pub cut : ℕ → List ℕ → Cut
unfolding ℕ_discrete
cut room [] = none
cut zero (c ∷ s) = elim (ℕ_discrete c 10) [ yes _ ↦ line [] s | no _ ↦ none ]
cut (suc room) (c ∷ s) = elim (ℕ_discrete c 10) [ yes _ ↦ line [] s | no _ ↦ onto c (cut room s) ]

-- a line has a key when it begins with it
abbrev pub Keyed : List ℕ → List ℕ → Type 0
Keyed key t = take (length key) t ≡ key

abbrev pub keyed : (key t : List ℕ) → Dec (Keyed key t)
keyed key t = same (take (length key) t) key

-- a text with no line feed, by computing
abbrev pub clear : List ℕ → Bool
clear [] = true
clear (c ∷ t) = not (eqb c 10) && clear t

-- a key of a few plain bytes, by computing
abbrev pub fair : List ℕ → Bool
fair key = leb (length key) 19 && clear key

-- the line without the due key; none where it has another
abbrev pub unkey : List ℕ → Cut → Cut
unkey key none = none
unkey key (line t rest) = elim (keyed key t) [ yes _ ↦ line (drop (length key) t) rest | no _ ↦ none ]

-- the most bytes that a line may have, without its line feed
abbrev pub longest : ℕ
longest = 40

-- the value of the line that bytes begin with, if the line is not too long and has the due key
unfoldable pub due : List ℕ → List ℕ → Cut
due key s = unkey key (cut longest s)

-- what a reader makes of bytes: a refusal with the number of its line, or a value and the bytes after it
pub data Got (A : Type 0) : Type 0 where
  refused : ℕ → ℕ → Got A
  got : A → List ℕ → Got A

-- 52 where the value is not in form or range
abbrev pub value_by : {A : Type 0} (f : Form A) → ℕ → (t : List ℕ) → List ℕ → Dec (InForm f t) → Got A
value_by f n t rest (yes _) = got (f.value t) rest
value_by f n t rest (no _) = refused 52 n

-- 51 before that, where the line is missing, over 40 bytes, without line feed, or of another key than due
abbrev pub line_of : {A : Type 0} → Form A → ℕ → Cut → Got A
line_of f n none = refused 51 n
line_of f n (line t rest) = value_by f n t rest (in_form f t)

-- line n, with its due key and the form of its value
unfoldable pub read_line : {A : Type 0} → List ℕ → Form A → ℕ → List ℕ → Got A
read_line key f n s = line_of f n (due key s)

-- the bytes of a line
abbrev pub line_text : {A : Type 0} → List ℕ → Form A → A → List ℕ
line_text key f a = key ++ (f.text a ++ (10 ∷ []))

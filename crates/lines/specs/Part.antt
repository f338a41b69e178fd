-- Sheets: lists of due lines, of which later ones may depend on the values of earlier ones.
-- Assumes nothing.
use Rattle.std.specs.Prelude.{ℕ, zero, suc, ◌+◌, ◌≡◌, List, [], ◌∷◌, ◌++◌}
use Rattle.lines.specs.Form.{Form}
use Rattle.lines.specs.Line.{Got, refused, got, read_line, line_text}

-- A part of a sheet: the lines that a value takes, which values there are, the bytes of each, and what a reader makes of bytes at a line.
pub record Part (A : Type 0) : Type 1 where
  pub lines : A → ℕ
  pub Fits : A → Type 0
  pub text : A → List ℕ
  pub read : ℕ → List ℕ → Got A

-- the first refusal decides
abbrev pub next : {A B : Type 0} → Got A → (A → List ℕ → Got B) → Got B
next (refused c l) f = refused c l
next (got a rest) f = f a rest

-- one due line
abbrev pub one_line : {A : Type 0} → List ℕ → Form A → Part A
one_line key f = record { lines = λ _. 1; Fits = f.Fits; text = line_text key f; read = read_line key f }

-- no line
abbrev pub nothing : {A : Type 0} → A → Part A
nothing a = record { lines = λ _. 0; Fits = λ b. b ≡ a; text = λ _. []; read = λ n s. got a s }

-- a part, and then one that may depend on its value
abbrev pub and_then : {A B : Type 0} → Part A → (A → Part B) → Part (A × B)
and_then p q = record {
  lines = λ w. p.lines w.0 + (q w.0).lines w.1;
  Fits = λ w. p.Fits w.0 × (q w.0).Fits w.1;
  text = λ w. p.text w.0 ++ (q w.0).text w.1;
  read = λ n s. next (p.read n s) (λ a r. next ((q a).read (n + p.lines a) r) (λ b r'. got (a, b) r'));
}

-- a part whose values are seen in another way: those that come back from it
abbrev pub viewed : {A B : Type 0} → (A → B) → (B → A) → Part A → Part B
viewed f g p = record {
  lines = λ b. p.lines (g b);
  Fits = λ b. (f (g b) ≡ b) × p.Fits (g b);
  text = λ b. p.text (g b);
  read = λ n s. next (p.read n s) (λ a r. got (f a) r);
}

-- a line whose value is known, before or behind a part
abbrev pub after : {A : Type 0} → Part (Unit {0}) → Part A → Part A
after p q = viewed (λ w. w.1) (λ a. (tt, a)) (and_then p (λ _. q))

abbrev pub before : {A : Type 0} → Part A → Part (Unit {0}) → Part A
before p q = viewed (λ w. w.0) (λ a. (a, tt)) (and_then p (λ _. q))

-- a part and a list of such parts are a list of at least one
abbrev pub lines_of : {A : Type 0} → Part (A × List A) → List A → ℕ
lines_of p [] = 0
lines_of p (a ∷ l) = p.lines (a, l)

abbrev pub FitsOf : {A : Type 0} → Part (A × List A) → List A → Type 0
FitsOf p [] = ⊥
FitsOf p (a ∷ l) = p.Fits (a, l)

abbrev pub text_of : {A : Type 0} → Part (A × List A) → List A → List ℕ
text_of p [] = []
text_of p (a ∷ l) = p.text (a, l)

abbrev pub listed : {A : Type 0} → Part (A × List A) → Part (List A)
listed p = record {
  lines = lines_of p;
  Fits = FitsOf p;
  text = text_of p;
  read = λ n s. next (p.read n s) (λ w r. got (w.0 ∷ w.1) r);
}

-- k parts, numbered from i on
unfoldable pub several : {A : Type 0} → (ℕ → Part A) → ℕ → ℕ → Part (List A)
several q zero i = nothing []
several q (suc k) i = listed (and_then (q i) (λ _. several q k (suc i)))

-- what a reader makes of a whole sheet: a refusal with the number of its line, or what the sheet holds
pub data Outcome (A : Type 0) : Type 0 where
  fault : ℕ → ℕ → Outcome A
  accepted : A → Outcome A

-- 53 where bytes are left, at the number of the line after the last
abbrev pub ended : {A : Type 0} → Part A → Got A → Outcome A
ended p (refused c l) = fault c l
ended p (got a []) = accepted a
ended p (got a (c ∷ rest)) = fault 53 (p.lines a + 1)

-- lines are counted from 1
unfoldable pub read_all : {A : Type 0} → Part A → List ℕ → Outcome A
read_all p s = ended p (p.read 1 s)

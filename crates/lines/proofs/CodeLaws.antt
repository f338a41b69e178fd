-- Each refusal has its code: 51 or 52 where a line is refused, 53 where bytes are left.
-- Assumes nothing.
use Prim.Native.Nat.{ℕ, zero, suc, ◌+◌, ◌≤◌}
use mathlib.Core.Path.{◌≡◌}
use mathlib.Core.List.{List, [], ◌∷◌}
use native.Mathlib.Omega.{arith}
use Rattle.lines.specs.Form.{Form, InForm, in_form}
use Rattle.lines.specs.Line.{Cut, line, none, due, line_of, value_by, read_line, Got, refused, got}
use Rattle.lines.specs.Part.{next, Part, one_line, and_then, viewed, after, before, several, fault, ended, read_all}

-- 51 or 52 from what was read
abbrev pub Coded : {A : Type 0} → Got A → Type 0
Coded (refused c l) = (51 ≤ c) × (c ≤ 52)
Coded (got a rest) = Unit {0}

pub coded_next : {A B : Type 0} (g : Got A) (f : A → List ℕ → Got B) → Coded g → ((a : A) (r : List ℕ) → Coded (f a r)) → Coded (next g f)
coded_next (refused c l) f h k = h
coded_next (got a r) f h k = k a r

-- each part refuses so
abbrev pub Codes : {A : Type 0} → Part A → Type 0
Codes p = (n : ℕ) (s : List ℕ) → Coded (p.read n s)

pub codes_line : {A : Type 0} (key : List ℕ) (f : Form A) → Codes (one_line key f)
unfolding read_line
codes_line key f n s = go (due key s)
  where
    in_form_lem : (t r : List ℕ) (d : Dec (InForm f t)) → Coded (value_by f n t r d)
    in_form_lem t r (yes _) = tt
    in_form_lem t r (no _) = (omega arith, omega arith)

    go : (k : Cut) → Coded (line_of f n k)
    go none = (omega arith, omega arith)
    go (line t r) = in_form_lem t r (in_form f t)

pub codes_then : {A B : Type 0} (p : Part A) (q : A → Part B) → Codes p → ((a : A) → Codes (q a)) → Codes (and_then p q)
codes_then p q h k n s = coded_next (p.read n s) _ (h n s) (λ a r. coded_next ((q a).read (n + p.lines a) r) _ (k a (n + p.lines a) r) (λ b r'. tt))

pub codes_viewed : {A B : Type 0} (f : A → B) (g : B → A) (p : Part A) → Codes p → Codes (viewed f g p)
codes_viewed f g p h n s = coded_next (p.read n s) _ (h n s) (λ a r. tt)

pub codes_after : {A : Type 0} (p : Part (Unit {0})) (q : Part A) → Codes p → Codes q → Codes (after p q)
codes_after p q h k = codes_viewed (λ w. w.1) (λ a. (tt, a)) (and_then p (λ _. q)) (codes_then p (λ _. q) h (λ _. k))

pub codes_before : {A : Type 0} (p : Part A) (q : Part (Unit {0})) → Codes p → Codes q → Codes (before p q)
codes_before p q h k = codes_viewed (λ w. w.0) (λ a. (a, tt)) (and_then p (λ _. q)) (codes_then p (λ _. q) h (λ _. k))

pub codes_several : {A : Type 0} (q : ℕ → Part A) → ((i : ℕ) → Codes (q i)) → (k i : ℕ) → Codes (several q k i)
unfolding several
codes_several q h zero i n s = tt
codes_several q h (suc k) i n s =
    coded_next ((and_then (q i) (λ _. several q k (suc i))).read n s) _ (codes_then (q i) (λ _. several q k (suc i)) (h i) (λ _. codes_several q h k (suc i)) n s) (λ w r. tt)

-- and so does a whole sheet
pub codes_all : {A : Type 0} (p : Part A) → Codes p → (s : List ℕ) (c l : ℕ) → read_all p s ≡ fault c l → (51 ≤ c) × (c ≤ 53)
unfolding read_all
codes_all p h s c l e = go (p.read 1 s) (h 1 s) e
  where
    go : (g : Got _) → Coded g → ended p g ≡ fault c l → (51 ≤ c) × (c ≤ 53)
    go (refused d m) k e = let q : d ≡ c = cc in (omega (arith, k.0), omega (arith, k.1))
    go (got a []) k e = absurd (let z : ◌≡◌ {A = ℕ} 0 1 = cc in omega arith)
    go (got a (d ∷ r)) k e = let q : 53 ≡ c = cc in (omega arith, omega arith)

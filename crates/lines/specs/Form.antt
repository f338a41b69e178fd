-- Values in form: a text is in form exactly when it is the text of a value that is in range.
-- Assumes nothing.
use Rattle.std.specs.Prelude.{ℕ, ◌^◌, ◌≤◌, ◌<◌, ◌≡◌, refl, ℤ, nat_abs}
use Rattle.std.proofs.Common.{ap₂}
use Rattle.std.proofs.Math.Logic.Dec
use mathlib.Core.List.{List, [], ◌∷◌, nil≢cons, cons≢nil, head-eq_of_cons-eq, tail-eq_of_cons-eq}
use Rattle.std.proofs.Math.Decide.{dec_le, dec_lt, ℕ_discrete}
use Rattle.lines.specs.Text.{decimal, signed, hex, value_from, signed_value}

-- whether two texts are the same
abbrev of_both : (c d : ℕ) (s t : List ℕ) → Dec (c ≡ d) → Dec (s ≡ t) → Dec (c ∷ s ≡ d ∷ t)
of_both c d s t (yes e) (yes f) = yes (ap₂ (λ (x : ℕ) (l : List ℕ). x ∷ l) e f)
of_both c d s t (yes e) (no k) = no (λ h. k (tail-eq_of_cons-eq h))
of_both c d s t (no k) f = no (λ h. k (head-eq_of_cons-eq h))

unfoldable pub same : (s t : List ℕ) → Dec (s ≡ t)
unfolding ℕ_discrete
same [] [] = yes refl
same [] (d ∷ t) = no nil≢cons
same (c ∷ s) [] = no cons≢nil
same (c ∷ s) (d ∷ t) = of_both c d s t (ℕ_discrete c d) (same s t)

-- A form of values: which are in range, that this is decided, the text of each, and what value a text would have.
pub record Form (A : Type 0) : Type 1 where
  pub Fits : A → Type 0
  pub fits : (a : A) → Dec (Fits a)
  pub text : A → List ℕ
  pub value : List ℕ → A

abbrev pub InForm : {A : Type 0} → Form A → List ℕ → Type 0
InForm f t = f.Fits (f.value t) × (f.text (f.value t) ≡ t)

unfoldable pub in_form : {A : Type 0} (f : Form A) (t : List ℕ) → Dec (InForm f t)
unfolding Dec.and
in_form f t = Dec.and (f.fits (f.value t)) (same (f.text (f.value t)) t)

-- one fixed word
abbrev pub word : List ℕ → Form (Unit {0})
word w = record { Fits = λ _. Unit {0}; fits = λ _. yes tt; text = λ _. w; value = λ _. tt }

-- a number of at most `most`
abbrev pub natural : ℕ → Form ℕ
natural most = record { Fits = λ n. n ≤ most; fits = λ n. dec_le n most; text = decimal; value = value_from 10 0 }

-- a whole number from -most to most
abbrev pub coordinate : ℕ → Form ℤ
coordinate most = record { Fits = λ z. nat_abs z ≤ most; fits = λ z. dec_le (nat_abs z) most; text = signed; value = signed_value }

-- a word of 64 bits
abbrev pub bits : Form ℕ
bits = record { Fits = λ n. n < 2 ^ 64; fits = λ n. dec_lt n (2 ^ 64); text = hex; value = value_from 16 0 }

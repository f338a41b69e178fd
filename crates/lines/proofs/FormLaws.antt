-- The texts of a form are read back, are short and hold no line feed; and which texts are in form.
-- Assumes nothing.
use Prim.Native.Nat.{ℕ, suc, ◌+◌, ◌*◌, ◌^◌, ◌≤◌, ◌<◌}
use mathlib.Core.Path.{◌≡◌, refl, ap, sym, ◌∙◌, subst}
use mathlib.Core.List.{List, [], ◌∷◌}
use native.Mathlib.Decide.{ℕ_discrete}
use mathlib.Core.Bool.{Bool, true, false, not, ◌&&◌}
use lib.Dec.{T, eqb}
use borrow.Author.Tests.{eqb-false}
use native.Mathlib.Omega.{arith}
use lib.ListN.{length}
use lib.IntN.{ℤ, pos, negsuc, nat_abs}
use Rattle.lines.specs.Text.{Digit, NoZero, value_from, decimal, hex, signed, signed_value, minus}
use Rattle.lines.specs.Form.{Form, InForm, word, natural, coordinate, bits}
use Rattle.lines.specs.Line.{clear}
use Rattle.lines.proofs.DigitLaws.{Every, every_to, value_most}
use Rattle.lines.proofs.NumberLaws.{width_most, decimal_length, decimal_digits, decimal_value, hex_length, hex_digits, hex_value, hex_made, decimal_made, decimal_plain}

-- a byte that is no line feed
abbrev pub NoFeed : ℕ → Type 0
NoFeed c = c ≡ 10 → ⊥

pub every_clear : (t : List ℕ) → T (clear t) → Every NoFeed t
every_clear [] h = tt
every_clear (c ∷ t) h = go (eqb c 10) refl h (λ k. every_clear t k)
  where
    go : (b : Bool) → eqb c 10 ≡ b → T (not b && clear t) → (T (clear t) → Every NoFeed t) → Every NoFeed (c ∷ t)
    go true e h f = absurd h
    go false e h f = (eqb-false c 10 e, f h)

-- the value of a text is the value whose text it is; texts are short, and hold no line feed
pub record Sound {A : Type 0} (f : Form A) : Type 0 where
  pub back : (a : A) → f.Fits a → f.value (f.text a) ≡ a
  pub short : (a : A) → f.Fits a → length (f.text a) ≤ 21
  pub plain : (a : A) → f.Fits a → Every NoFeed (f.text a)

-- digits are no line feeds, and so each form is sound
digit_feed : (b c : ℕ) → Digit b c → NoFeed c
digit_feed b c d e = omega (arith, d.least)

decimal_feed : (n : ℕ) → Every NoFeed (decimal n)
decimal_feed n = every_to (Digit 10) NoFeed (digit_feed 10) (decimal n) (decimal_digits n)

pub sound_word : (w : List ℕ) → length w ≤ 21 → Every NoFeed w → Sound (word w)
sound_word w h p = record { back = λ a _. refl; short = λ a _. h; plain = λ a _. p }

pub sound_decimal : (n : ℕ) → Sound (word (decimal n))
sound_decimal n = sound_word (decimal n) (omega (arith, decimal_length n, width_most n)) (decimal_feed n)

pub sound_natural : (most : ℕ) → most < 10 ^ 20 → Sound (natural most)
sound_natural most h = record {
  back = λ n f. decimal_value n (omega arith);
  short = λ n f. omega (arith, decimal_length n, width_most n);
  plain = λ n f. decimal_feed n;
}

pub sound_bits : Sound bits
sound_bits = record {
  back = λ n f. hex_value n f;
  short = λ n f. omega (arith, hex_length n);
  plain = λ n f. every_to (Digit 16) NoFeed (digit_feed 16) (hex n) (hex_digits n);
}

-- what a coordinate stands for, by what its text begins with
pub signed_minus : (c : ℕ) (t : List ℕ) → c ≡ 45 → signed_value (c ∷ t) ≡ minus (value_from 10 0 t)
unfolding signed_value
signed_minus c t e = go (ℕ_discrete c 45)
  where
    go : (d : Dec (c ≡ 45)) → elim d [ yes _ ↦ minus (value_from 10 0 t) | no _ ↦ pos (value_from 10 0 (c ∷ t)) ] ≡ minus (value_from 10 0 t)
    go (yes _) = refl
    go (no h) = absurd (h e)

pub signed_no_minus : (c : ℕ) (t : List ℕ) → (c ≡ 45 → ⊥) → signed_value (c ∷ t) ≡ pos (value_from 10 0 (c ∷ t))
unfolding signed_value
signed_no_minus c t n = go (ℕ_discrete c 45)
  where
    go : (d : Dec (c ≡ 45)) → elim d [ yes _ ↦ minus (value_from 10 0 t) | no _ ↦ pos (value_from 10 0 (c ∷ t)) ] ≡ pos (value_from 10 0 (c ∷ t))
    go (yes e) = absurd (n e)
    go (no _) = refl

signed_digits : (t : List ℕ) → Every (Digit 10) t → NoZero t → signed_value t ≡ pos (value_from 10 0 t)
signed_digits [] e z = absurd z
signed_digits (c ∷ t) e z = signed_no_minus c t (λ q. omega (arith, e.0.least))

signed_value_lem : (z : ℤ) → nat_abs z < 10 ^ 20 → signed_value (signed z) ≡ z
unfolding signed
signed_value_lem (pos n) h = signed_digits (decimal n) (decimal_digits n) (decimal_plain n h) ∙ ap pos (decimal_value n h)
signed_value_lem (negsuc n) h = signed_minus 45 (decimal (suc n)) refl ∙ ap minus (decimal_value (suc n) h)

signed_short : (z : ℤ) → length (signed z) ≤ 21
unfolding signed
signed_short (pos n) = omega (arith, decimal_length n, width_most n)
signed_short (negsuc n) = omega (arith, decimal_length (suc n), width_most (suc n))

signed_plain : (z : ℤ) → Every NoFeed (signed z)
unfolding signed
signed_plain (pos n) = decimal_feed n
signed_plain (negsuc n) = (λ e. omega arith, decimal_feed (suc n))

pub sound_coordinate : (most : ℕ) → most < 10 ^ 20 → Sound (coordinate most)
sound_coordinate most h = record {
  back = λ z f. signed_value_lem z (omega arith);
  short = λ z f. signed_short z;
  plain = λ z f. signed_plain z;
}

-- a number is in form exactly when it has decimal digits, no zero in front but for the zero itself, and is in range
module _ (most : ℕ) (small : most < 10 ^ 20) (t : List ℕ) where
  pub number_form : InForm (natural most) t → Every (Digit 10) t × (NoZero t × (value_from 10 0 t ≤ most))
  number_form f = (subst (Every (Digit 10)) f.1 (decimal_digits (value_from 10 0 t)), (subst NoZero f.1 (decimal_plain (value_from 10 0 t) (omega (arith, f.0))), f.0))

  pub form_number : Every (Digit 10) t → NoZero t → value_from 10 0 t ≤ most → InForm (natural most) t
  form_number d z m = (m, decimal_made t d z (omega arith))

-- a word of 64 bits is in form exactly when it has 16 hexadecimal digits
module _ (t : List ℕ) where
  pub bits_form : InForm bits t → (length t ≡ 16) × Every (Digit 16) t
  bits_form f = (ap length (sym f.1) ∙ hex_length (value_from 16 0 t), subst (Every (Digit 16)) f.1 (hex_digits (value_from 16 0 t)))

  pub form_bits : length t ≡ 16 → Every (Digit 16) t → InForm bits t
  form_bits l d =
      let b : value_from 16 0 t < (0 + 1) * 16 ^ length t = value_most 16 (omega arith) (omega arith) t 0 d in
      let e : 16 ^ length t ≡ 16 ^ 16 = ap (λ (n : ℕ). 16 ^ n) l in
      (omega arith, hex_made t l d)

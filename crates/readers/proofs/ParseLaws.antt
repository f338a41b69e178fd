-- A number is read digit by digit.
-- Assumes nothing.
use Prim.Native.Nat.{ℕ, zero, suc, ◌+◌, ◌-◌, ◌*◌, ◌^◌, ◌≤◌, ◌<◌}
use mathlib.Core.Path.{◌≡◌, refl, ap, sym, ◌∙◌, subst}
use mathlib.Core.List.{List, [], ◌∷◌, ◌++◌}
use native.Mathlib.Nat.{mul-one, mul-le-mul_left, one-le-pow, pow-le-pow_right}
use native.Mathlib.Numerals.{add-one}
use native.Mathlib.Omega.{arith}
use lib.ListN.{length, take, drop, get_or, take-append-drop}
use lib.Seq.{take-suc, take_all, length-take-le}
use Rattle.io.specs.Digits.{hex_digit_ascii}
use Rattle.lines.specs.Text.{unglyph, Digit, NoZero, value_from}
use Rattle.std.specs.Prelude.{Option, None}
use Rattle.lines.specs.Form.{Form, InForm, natural, bits}
use Rattle.readers.specs.Readers.{Parses}
use Rattle.lines.proofs.DigitLaws.{Every, every_append, glyph_below, glyph_above, unglyph_low, unglyph_high, value_append, value_least, value_most}
use Rattle.lines.proofs.FormLaws.{number_form, form_number, bits_form, form_bits}

-- nothing is read of a text that is not in form
pub unparsed : {A : Type 0} (f : Form A) (t : List ℕ) (r : Option A) → r ≡ None → (InForm f t → ⊥) → Parses f t r
unparsed f t r e n = subst (Parses f t) (sym e) n

-- no zero in front
pub led_empty : (t : List ℕ) → length t ≡ 0 → NoZero t → ⊥
led_empty [] h z = z
led_empty (c ∷ t) h z = omega arith

-- digits
pub digit_make : (c : ℕ) → 48 ≤ c → c ≤ 57 → Digit 10 c
digit_make c h k =
    let e : unglyph c ≡ c - 48 = unglyph_low c (omega arith) in
    record { least = h; back = ap hex_digit_ascii e ∙ glyph_below (c - 48) (omega arith) ∙ omega arith; below = omega arith }

pub digit_most : (c : ℕ) → Digit 10 c → c ≤ 57
digit_most c d = omega (arith, d.back, d.below, glyph_below (unglyph c) d.below)

pub every_at : (P : ℕ → Type 0) (t : List ℕ) → Every P t → (i : ℕ) → i < length t → P (get_or t i 0)
every_at P [] e i h = absurd (omega arith)
every_at P (c ∷ t) e zero h = e.0
every_at P (c ∷ t) e (suc i) h = every_at P t e.1 i (omega arith)

-- the digits passed, and what they stand for
pub record Sofar (b : ℕ) (t : List ℕ) (a i : ℕ) : Type 0 where
  pub within : i ≤ length t
  pub value : a ≡ value_from b 0 (take i t)
  pub digits : Every (Digit b) (take i t)

pub sofar_none : (b : ℕ) (t : List ℕ) → Sofar b t 0 0
unfolding value_from
sofar_none b t = record { within = omega arith; value = refl; digits = tt }

module _ (b : ℕ) (t : List ℕ) (a i : ℕ) (s : Sofar b t a i) where
  pub sofar_more : i < length t → Digit b (get_or t i 0) → Sofar b t (a * b + unglyph (get_or t i 0)) (i + 1)
  unfolding value_from
  sofar_more h d =
      let e : take (i + 1) t ≡ take i t ++ (get_or t i 0 ∷ []) = ap (λ (n : ℕ). take n t) (add-one i) ∙ take-suc t i 0 h in
      record {
        within = omega arith;
        value = ap (λ (v : ℕ). v * b + unglyph (get_or t i 0)) s.value ∙ sym (ap (value_from b 0) e ∙ value_append b 0 (take i t) (get_or t i 0 ∷ []));
        digits = subst (Every (Digit b)) (sym e) (every_append (Digit b) (take i t) (get_or t i 0 ∷ []) s.digits (d, tt));
      }

  pub sofar_all : length t ≤ i → (a ≡ value_from b 0 t) × Every (Digit b) t
  sofar_all h = let e : take i t ≡ t = take_all i t h in (s.value ∙ ap (value_from b 0) e, subst (Every (Digit b)) e s.digits)

  -- the value of the whole is no less
  pub sofar_least : 0 < b → b ≤ 16 → a ≤ value_from b 0 t
  sofar_least p q =
      let e : value_from b 0 t ≡ value_from b a (drop i t) =
      ap (value_from b 0) (sym (take-append-drop i t)) ∙ value_append b 0 (take i t) (drop i t) ∙ ap (λ (v : ℕ). value_from b v (drop i t)) (sym s.value) in
      omega (arith, value_least b p q (drop i t) a, mul_le_one a (b ^ length (drop i t)) (one-le-pow (length (drop i t)) b p))
    where
      mul_le_one : (x y : ℕ) → 1 ≤ y → x ≤ x * y
      mul_le_one x y h = omega (arith, mul-le-mul_left x h, mul-one x)

-- a decimal number
module _ (most : ℕ) (t : List ℕ) (small : most ≤ 4294967295) where
  pub bad_digit : (i : ℕ) → i < length t → (Digit 10 (get_or t i 0) → ⊥) → InForm (natural most) t → ⊥
  bad_digit i h n f = n (every_at (Digit 10) t (number_form most (omega arith) t f).0 i h)

  pub bad_lead : (NoZero t → ⊥) → InForm (natural most) t → ⊥
  bad_lead n f = n (number_form most (omega arith) t f).1.0

  pub bad_most : (a i : ℕ) → Sofar 10 t a i → most < a → InForm (natural most) t → ⊥
  bad_most a i s h f = omega (arith, f.0, sofar_least 10 t a i s (omega arith) (omega arith))

  pub good : (a i : ℕ) → Sofar 10 t a i → length t ≤ i → a ≤ most → NoZero t → InForm (natural most) t × (a ≡ value_from 10 0 t)
  good a i s h k z = let w = sofar_all 10 t a i s h in (form_number most (omega arith) t w.1 z (omega (arith, w.0)), w.0)

-- hexadecimal digits
pub nibble_low : (c : ℕ) → 48 ≤ c → c ≤ 57 → Digit 16 c × (unglyph c ≡ c - 48)
nibble_low c h k =
    let u : unglyph c ≡ c - 48 = unglyph_low c (omega arith) in
    (record { least = h; back = ap hex_digit_ascii u ∙ glyph_below (c - 48) (omega arith) ∙ omega arith; below = omega arith }, u)

pub nibble_high : (c : ℕ) → 97 ≤ c → c ≤ 102 → Digit 16 c × (unglyph c ≡ c - 87)
nibble_high c h k =
    let u : unglyph c ≡ c - 87 = unglyph_high c (omega arith) in
    (record { least = omega arith; back = ap hex_digit_ascii u ∙ glyph_above (c - 87) (omega arith) ∙ omega arith; below = omega arith }, u)

pub between : (c : ℕ) → 57 < c → c < 97 → Digit 16 c → ⊥
between c h k d = let u : unglyph c ≡ c - 87 = unglyph_high c h in omega (arith, sym (ap hex_digit_ascii u) ∙ d.back, glyph_below (c - 87) (omega arith))

pub beyond : (c : ℕ) → 102 < c → Digit 16 c → ⊥
beyond c h d = omega (arith, unglyph_high c (omega arith), d.below)

-- sixteen of them
pub sofar_below : (b : ℕ) → 0 < b → b ≤ 16 → (t : List ℕ) (a i : ℕ) → Sofar b t a i → a < b ^ i
sofar_below b p q t a i s =
    let l : length (take i t) ≡ i = length-take-le i t s.within in
    let e : b ^ length (take i t) ≡ b ^ i = ap (λ (n : ℕ). b ^ n) l in
    omega (arith, value_most b p q (take i t) 0 s.digits, s.value)

pub room : (a i d : ℕ) → a < 16 ^ i → i < 16 → d < 16 → a * 16 + d < 18446744073709551616
room a i d h k l = omega (arith, pow-le-pow_right {n = 16} (omega arith) {i = i} {j = 15} (omega arith))

module _ (t : List ℕ) where
  pub bits_length : (length t ≡ 16 → ⊥) → InForm bits t → ⊥
  bits_length n f = n (bits_form t f).0

  pub bits_digit : (i : ℕ) → i < length t → (Digit 16 (get_or t i 0) → ⊥) → InForm bits t → ⊥
  bits_digit i h n f = n (every_at (Digit 16) t (bits_form t f).1 i h)

  pub bits_good : (a i : ℕ) → Sofar 16 t a i → length t ≤ i → length t ≡ 16 → InForm bits t × (a ≡ value_from 16 0 t)
  bits_good a i s h l = let w = sofar_all 16 t a i s h in (form_bits t l w.1, w.0)

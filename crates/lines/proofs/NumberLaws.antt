-- The value of a number's text is the number, and a text of digits is its value's.
-- Assumes nothing.
use Prim.Native.Nat.{ℕ, zero, suc, ◌+◌, ◌-◌, ◌*◌, ◌/◌, ◌^◌, ◌≤◌, ◌<◌}
use mathlib.Core.Path.{◌≡◌, refl, ap, sym, ◌∙◌, subst}
use mathlib.Core.List.{List, [], ◌∷◌}
use native.Mathlib.Decide.{dec_le, dec_lt}
use native.Mathlib.Nat.{div-lt_iff_lt-mul, le-div_iff_mul-le, pow-suc, one-le-pow, zero-add, mul-le-mul_right, pow-le-pow_right}
use native.Mathlib.Omega.{arith}
use lib.ListN.{length}
use Rattle.io.specs.Digits.{hex_digit_ascii, last_digits, IsDigitCount}
use Rattle.lines.specs.Text.{unglyph, Digit, NoZero, value_from, width, width_in, decimal, hex}
use Rattle.lines.proofs.DigitLaws.{Every, unglyph_low, length_digits, every_digit, value_digits, digits_value, value_least, value_most}

-- the fewest digits
ten : (k : ℕ) → 1 ≤ 10 ^ k
ten k = one-le-pow k 10 (omega arith)

pub fewest_one : (n j k : ℕ) → IsDigitCount 10 1 n j → IsDigitCount 10 1 n k → j ≤ k
fewest_one n j k p q = go (dec_le j k)
  where
    go : Dec (j ≤ k) → j ≤ k
    go (yes h) = h
    go (no h) = absurd (omega (arith, p.2 (omega (arith, q.0)), q.1, pow-le-pow_right {n = 10} (omega arith) {i = k} {j = j - 1} (omega arith)))

pub fewest_unique : (n j k : ℕ) → IsDigitCount 10 1 n j → IsDigitCount 10 1 n k → j ≡ k
fewest_unique n j k p q = omega (arith, fewest_one n j k p q, fewest_one n k j q p)

fewest_next : (n w : ℕ) → 10 ≤ n → IsDigitCount 10 1 (n / 10) w → IsDigitCount 10 1 n (suc w)
fewest_next n w h f = (
  omega arith,
  subst (λ (m : ℕ). n < m) (sym (pow-suc 10 w)) ((div-lt_iff_lt-mul (omega arith)).0 f.1),
  λ _. let e : w ≡ suc w - 1 = omega arith in subst (λ (m : ℕ). 10 ^ m ≤ n) e (go w f),
)
  where
    ten_less : (w : ℕ) → 10 ^ (suc (suc w) - 1) ≤ n / 10 → 10 ^ suc w ≤ n / 10
    ten_less w h = let e : suc (suc w) - 1 ≡ suc w = omega arith in subst (λ (m : ℕ). 10 ^ m ≤ n / 10) e h

    go : (w : ℕ) → IsDigitCount 10 1 (n / 10) w → 10 ^ w ≤ n
    go zero f = absurd (omega (arith, f.0))
    go (suc zero) f = h
    go (suc (suc w)) f = subst (λ (m : ℕ). m ≤ n) (sym (pow-suc 10 (suc w))) ((le-div_iff_mul-le {k = 10} {x = 10 ^ suc w} (omega arith)).0 (ten_less w (f.2 (omega arith))))

fewest_in : (k n : ℕ) → n < 10 ^ suc k → IsDigitCount 10 1 n (width_in k n)
unfolding width_in
fewest_in zero n h = (omega arith, h, λ l. absurd (omega arith))
fewest_in (suc k) n h = go (dec_lt n 10) (λ l. fewest_in k (n / 10) l)
  where
    go : (d : Dec (n < 10)) → (n / 10 < 10 ^ suc k → IsDigitCount 10 1 (n / 10) (width_in k (n / 10))) → IsDigitCount 10 1 n (elim d [ yes _ ↦ 1 | no _ ↦ suc (width_in k (n / 10)) ])
    go (yes l) f = (omega arith, l, λ l. absurd (omega arith))
    go (no l) f = fewest_next n (width_in k (n / 10)) (omega arith) (f ((div-lt_iff_lt-mul (omega arith)).1 (subst (λ (m : ℕ). n < m) (pow-suc 10 (suc k)) h)))

pub width_fewest : (n : ℕ) → n < 10 ^ 20 → IsDigitCount 10 1 n (width n)
unfolding width
width_fewest n h = fewest_in 19 n h

most_in : (k n : ℕ) → width_in k n ≤ suc k
unfolding width_in
most_in zero n = omega arith
most_in (suc k) n = go (dec_lt n 10) (most_in k (n / 10))
  where
    go : (d : Dec (n < 10)) → width_in k (n / 10) ≤ suc k → elim d [ yes _ ↦ 1 | no _ ↦ suc (width_in k (n / 10)) ] ≤ suc (suc k)
    go (yes l) h = omega arith
    go (no l) h = omega arith

pub width_most : (n : ℕ) → width n ≤ 20
unfolding width
width_most n = most_in 19 n

-- decimal and hexadecimal text
pub decimal_length : (n : ℕ) → length (decimal n) ≡ width n
unfolding decimal
decimal_length n = length_digits 10 (width n) n

pub decimal_digits : (n : ℕ) → Every (Digit 10) (decimal n)
unfolding decimal
decimal_digits n = every_digit 10 (omega arith) (omega arith) (width n) n

pub decimal_value : (n : ℕ) → n < 10 ^ 20 → value_from 10 0 (decimal n) ≡ n
unfolding decimal
decimal_value n h = value_digits 10 (omega arith) (omega arith) (width n) n (width_fewest n h).1

pub hex_length : (n : ℕ) → length (hex n) ≡ 16
unfolding hex
hex_length n = length_digits 16 16 n

pub hex_digits : (n : ℕ) → Every (Digit 16) (hex n)
unfolding hex
hex_digits n = every_digit 16 (omega arith) (omega arith) 16 n

pub hex_value : (n : ℕ) → n < 2 ^ 64 → value_from 16 0 (hex n) ≡ n
unfolding hex
hex_value n h = value_digits 16 (omega arith) (omega arith) 16 n h

-- a text of 16 digits is the text of its value, and so is one of decimal digits with no zero in front
pub hex_made : (t : List ℕ) → length t ≡ 16 → Every (Digit 16) t → hex (value_from 16 0 t) ≡ t
unfolding hex
hex_made t l e = let q : 16 ≡ 0 + length t = omega arith in ap (λ (k : ℕ). last_digits 16 k (value_from 16 0 t)) q ∙ digits_value 16 (omega arith) (omega arith) t 0 0 e

value_zero : (c : ℕ) (t : List ℕ) → value_from 10 0 (c ∷ t) ≡ value_from 10 (unglyph c) t
unfolding value_from
value_zero c t = let e : 0 * 10 + unglyph c ≡ unglyph c = omega arith in ap (λ (a : ℕ). value_from 10 a t) e

front : (c : ℕ) → Digit 10 c → (c ≡ 48 → ⊥) → 1 ≤ unglyph c
front c d h = go (dec_le 1 (unglyph c))
  where
    go : Dec (1 ≤ unglyph c) → 1 ≤ unglyph c
    go (yes k) = k
    go (no k) = let e : unglyph c ≡ 0 = omega arith in absurd (h (sym d.back ∙ ap hex_digit_ascii e))

fewest_text : (t : List ℕ) → Every (Digit 10) t → NoZero t → IsDigitCount 10 1 (value_from 10 0 t) (length t)
fewest_text [] e z = absurd z
fewest_text (c ∷ []) e z = (omega arith, omega (arith, value_most 10 (omega arith) (omega arith) (c ∷ []) 0 e), λ l. absurd (omega arith))
fewest_text (c ∷ (d ∷ t)) e z = (
  omega arith,
  omega (arith, value_most 10 (omega arith) (omega arith) (c ∷ (d ∷ t)) 0 e),
  λ _. big (mul-le-mul_right (10 ^ suc (length t)) (front c e.0 z)),
)
  where
    big : 1 * 10 ^ suc (length t) ≤ unglyph c * 10 ^ suc (length t) → 10 ^ (suc (suc (length t)) - 1) ≤ value_from 10 0 (c ∷ (d ∷ t))
    big l =
        let q : suc (suc (length t)) - 1 ≡ suc (length t) = omega arith in
        let r : 10 ^ (suc (suc (length t)) - 1) ≡ 10 ^ suc (length t) = ap (λ (m : ℕ). 10 ^ m) q in
        omega (arith, value_least 10 (omega arith) (omega arith) (d ∷ t) (unglyph c), value_zero c (d ∷ t))

pub decimal_made : (t : List ℕ) → Every (Digit 10) t → NoZero t → value_from 10 0 t < 10 ^ 20 → decimal (value_from 10 0 t) ≡ t
unfolding decimal
decimal_made t e z h =
    ap (λ (k : ℕ). last_digits 10 k (value_from 10 0 t)) (fewest_unique (value_from 10 0 t) (width (value_from 10 0 t)) (0 + length t) (width_fewest (value_from 10 0 t) h) (subst (IsDigitCount 10 1 (value_from 10 0 t)) (sym (zero-add (length t))) (fewest_text t e z)))
    ∙ digits_value 10 (omega arith) (omega arith) t 0 0 e

no_zero : (n : ℕ) (t : List ℕ) → decimal n ≡ t → n < 10 ^ 20 → Every (Digit 10) t → NoZero t
no_zero n [] q h e = omega (arith, decimal_length n, ap length q, (width_fewest n h).0)
no_zero n (c ∷ []) q h e = tt
no_zero n (c ∷ (d ∷ t)) q h e = λ z.
    let w : width n ≡ suc (suc (length t)) = sym (decimal_length n) ∙ ap length q in
    let big : 10 ^ (width n - 1) ≤ n = (width_fewest n h).2 (omega arith) in
    let v : value_from 10 0 (c ∷ (d ∷ t)) ≡ n = sym (ap (value_from 10 0) q) ∙ decimal_value n h in
    let u : unglyph c ≡ 0 = ap unglyph z ∙ unglyph_low 48 (omega arith) in
    let k : width n - 1 ≡ suc (length t) = omega arith in
    let r : 10 ^ (width n - 1) ≡ 10 ^ suc (length t) = ap (λ (m : ℕ). 10 ^ m) k in
    let o : (unglyph c + 1) * 10 ^ suc (length t) ≡ 1 * 10 ^ suc (length t) = ap (λ (m : ℕ). (m + 1) * 10 ^ suc (length t)) u in
    omega (arith, value_most 10 (omega arith) (omega arith) (d ∷ t) (unglyph c) e.1, value_zero c (d ∷ t))

pub decimal_plain : (n : ℕ) → n < 10 ^ 20 → NoZero (decimal n)
decimal_plain n h = no_zero n (decimal n) refl h (decimal_digits n)

-- Digits and what they stand for, once over the base.
-- Assumes nothing.
use Prim.Native.Nat.{ℕ, zero, suc, ◌+◌, ◌-◌, ◌*◌, ◌/◌, ◌%◌, ◌^◌, ◌≤◌, ◌<◌}
use mathlib.Core.Path.{◌≡◌, refl, ap, ap₂, sym, ◌∙◌, subst}
use mathlib.Core.List.{List, [], ◌∷◌, ◌++◌, append_assoc, append-nil}
use native.Mathlib.Decide.{dec_lt}
use native.Mathlib.Nat.{mod-lt, div-add-mod', div-lt_iff_lt-mul, mul-add-div_right, mul-add-mod_self_right, div-eq_of_lt, mod-eq_of_lt, pow-suc, pow-succ', pow-zero, add-zero, add-suc, suc-add, mul-one, mul_assoc, mul-le-mul_right, add-mul}
use native.Mathlib.Omega.{arith}
use borrow.Author.Tests.{lt-ltb, le-ltb}
use lib.ListN.{length, length-append}
use Rattle.io.specs.Digits.{hex_digit_ascii, last_digits}
use Rattle.lines.specs.Text.{unglyph, Digit, value_from}

-- every byte of a text
abbrev pub Every : (ℕ → Type 0) → List ℕ → Type 0
Every P [] = Unit {0}
Every P (c ∷ t) = P c × Every P t

pub every_append : (P : ℕ → Type 0) (s t : List ℕ) → Every P s → Every P t → Every P (s ++ t)
every_append P [] t p q = q
every_append P (c ∷ s) t p q = (p.0, every_append P s t p.1 q)

pub every_to : (P Q : ℕ → Type 0) → ((c : ℕ) → P c → Q c) → (t : List ℕ) → Every P t → Every Q t
every_to P Q f [] p = tt
every_to P Q f (c ∷ t) p = (f c p.0, every_to P Q f t p.1)

-- digits
pub glyph_below : (d : ℕ) → d < 10 → hex_digit_ascii d ≡ 48 + d
glyph_below d h = rw (lt-ltb d 10 h)

pub glyph_above : (d : ℕ) → 10 ≤ d → hex_digit_ascii d ≡ 87 + d
glyph_above d h = rw (le-ltb d 10 h)

pub unglyph_low : (c : ℕ) → c < 58 → unglyph c ≡ c - 48
unfolding unglyph
unglyph_low c h = go (dec_lt c 58)
  where
    go : (d : Dec (c < 58)) → elim d [ yes _ ↦ c - 48 | no _ ↦ c - 87 ] ≡ c - 48
    go (yes _) = refl
    go (no k) = absurd (k h)

pub unglyph_high : (c : ℕ) → 58 ≤ c → unglyph c ≡ c - 87
unfolding unglyph
unglyph_high c h = go (dec_lt c 58)
  where
    go : (d : Dec (c < 58)) → elim d [ yes _ ↦ c - 48 | no _ ↦ c - 87 ] ≡ c - 87
    go (yes k) = absurd (omega arith)
    go (no k) = refl

pub unglyph_glyph : (d : ℕ) → d < 16 → unglyph (hex_digit_ascii d) ≡ d
unglyph_glyph d h = go (dec_lt d 10)
  where
    go : Dec (d < 10) → unglyph (hex_digit_ascii d) ≡ d
    go (yes k) = let e : hex_digit_ascii d ≡ 48 + d = glyph_below d k in rw e (unglyph_low (48 + d) (omega arith) ∙ omega arith)
    go (no k) = let e : hex_digit_ascii d ≡ 87 + d = glyph_above d (omega arith) in rw e (unglyph_high (87 + d) (omega arith) ∙ omega arith)

glyph_least : (d : ℕ) → 48 ≤ hex_digit_ascii d
glyph_least d = go (dec_lt d 10)
  where
    go : Dec (d < 10) → 48 ≤ hex_digit_ascii d
    go (yes k) = omega (arith, glyph_below d k)
    go (no k) = omega (arith, glyph_above d (omega arith))

pub digit_glyph : (b d : ℕ) → b ≤ 16 → d < b → Digit b (hex_digit_ascii d)
digit_glyph b d h k =
    let e : unglyph (hex_digit_ascii d) ≡ d = unglyph_glyph d (omega arith) in
    record { least = glyph_least d; back = ap hex_digit_ascii e; below = omega arith }

-- the value of digits
pub value_append : (b a : ℕ) (s t : List ℕ) → value_from b a (s ++ t) ≡ value_from b (value_from b a s) t
unfolding value_from
value_append b a [] t = refl
value_append b a (c ∷ s) t = value_append b (a * b + unglyph c) s t

pub length_digits : (b k n : ℕ) → length (last_digits b k n) ≡ k
length_digits b zero n = refl
length_digits b (suc k) n = length-append (last_digits b k (n / b)) (hex_digit_ascii (n % b) ∷ []) ∙ omega (arith, length_digits b k (n / b))

module _ (b : ℕ) (some : 0 < b) (few : b ≤ 16) where
  pub every_digit : (k n : ℕ) → Every (Digit b) (last_digits b k n)
  every_digit zero n = tt
  every_digit (suc k) n = every_append (Digit b) (last_digits b k (n / b)) _ (every_digit k (n / b)) (digit_glyph b (n % b) few (mod-lt n some), tt)

  pub value_digits : (k n : ℕ) → n < b ^ k → value_from b 0 (last_digits b k n) ≡ n
  unfolding value_from
  value_digits zero n h = omega (arith, pow-zero b)
  value_digits (suc k) n h =
      let less : n / b < b ^ k = (div-lt_iff_lt-mul some).1 (subst (λ (m : ℕ). n < m) (pow-suc b k) h) in
      let u : unglyph (hex_digit_ascii (n % b)) ≡ n % b = unglyph_glyph (n % b) (omega (arith, mod-lt n some)) in
      value_append b 0 (last_digits b k (n / b)) (hex_digit_ascii (n % b) ∷ [])
      ∙ ap₂ (λ (v w : ℕ). v * b + w) (value_digits k (n / b) less) u
      ∙ div-add-mod' n b

  -- digits after those of a: they are the digits of the value of all
  pub digits_value : (t : List ℕ) (k a : ℕ) → Every (Digit b) t → last_digits b (k + length t) (value_from b a t) ≡ last_digits b k a ++ t
  unfolding value_from
  digits_value [] k a e = ap (λ (m : ℕ). last_digits b m a) (add-zero k) ∙ sym (append-nil (last_digits b k a))
  digits_value (c ∷ t) k a e =
      let u = unglyph c in
      let q : (a * b + u) / b ≡ a = mul-add-div_right some a u ∙ omega (arith, div-eq_of_lt e.0.below) in
      let r : (a * b + u) % b ≡ u = mul-add-mod_self_right a b u ∙ mod-eq_of_lt e.0.below in
      ap (λ (m : ℕ). last_digits b m (value_from b (a * b + u) t)) (add-suc k (length t) ∙ sym (suc-add k (length t)))
      ∙ digits_value t (suc k) (a * b + u) e.1
      ∙ ap₂ (λ (x y : ℕ). (last_digits b k x ++ (hex_digit_ascii y ∷ [])) ++ t) q r
      ∙ ap (λ (y : ℕ). (last_digits b k a ++ (y ∷ [])) ++ t) e.0.back
      ∙ append_assoc (last_digits b k a) (c ∷ []) t

  pub value_least : (t : List ℕ) (a : ℕ) → a * b ^ length t ≤ value_from b a t
  unfolding value_from
  value_least [] a = omega (arith, ap (λ (m : ℕ). a * m) (pow-zero b), mul-one a)
  value_least (c ∷ t) a =
      let u = unglyph c in
      let e : a * b ^ suc (length t) ≡ a * b * b ^ length t = ap (λ (m : ℕ). a * m) (pow-succ' b (length t)) ∙ sym (mul_assoc a b (b ^ length t)) in
      let l : a * b * b ^ length t ≤ (a * b + u) * b ^ length t = mul-le-mul_right (b ^ length t) (omega arith) in
      omega (arith, value_least t (a * b + u))

  pub value_most : (t : List ℕ) (a : ℕ) → Every (Digit b) t → value_from b a t < (a + 1) * b ^ length t
  unfolding value_from
  value_most [] a e = omega (arith, ap (λ (m : ℕ). (a + 1) * m) (pow-zero b), mul-one (a + 1))
  value_most (c ∷ t) a e =
      let u = unglyph c in
      let q : (a + 1) * b ^ suc (length t) ≡ (a + 1) * b * b ^ length t = ap (λ (m : ℕ). (a + 1) * m) (pow-succ' b (length t)) ∙ sym (mul_assoc (a + 1) b (b ^ length t)) in
      let l : (a * b + u + 1) * b ^ length t ≤ (a + 1) * b * b ^ length t = mul-le-mul_right (b ^ length t) (omega (arith, e.0.below, add-mul a 1 b)) in
      omega (arith, value_most t (a * b + u) e.1)

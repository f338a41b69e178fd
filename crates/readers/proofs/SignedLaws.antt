-- A coordinate is a number, or a number but 0 after a minus.
-- Assumes nothing.
use Prim.Native.Nat.{ℕ, zero, suc, ◌-◌, ◌≤◌}
use mathlib.Core.Path.{◌≡◌, refl, ap, sym, ◌∙◌, subst}
use mathlib.Core.Bool.{true, false, true≢false, false≢true}
use mathlib.Core.List.{List, [], ◌∷◌}
use native.Mathlib.Omega.{arith}
use lib.ListN.{get_or, take, drop}
use lib.IntN.{ℤ, pos, negsuc, nat_abs, ◌-ℤ◌}
use borrow.Author.Tests.{lt-ltb}
use mir.Syntax.{w32}
use mir.Val.{SFits, to_z, of_z}
use mir.Facts.{to_z_pos, to_z-of_z}
use Rattle.std.specs.Str.{bytes_eq}
use Rattle.std.proofs.lemmas.Slice.Eq.{bytes_eq-Decides}
use Rattle.lines.specs.Text.{Digit, NoZero, decimal, signed, signed_value, minus, value_from}
use Rattle.lines.specs.Form.{InForm, natural, coordinate}
use Rattle.lines.proofs.DigitLaws.{Every}
use Rattle.lines.proofs.FormLaws.{signed_minus, signed_no_minus, number_form}
use Rattle.lines.proofs.NumberLaws.{decimal_digits, decimal_plain}

signed_zero : signed_value [] ≡ pos 0
unfolding signed_value
signed_zero = refl

signed_pos : (n : ℕ) → signed (pos n) ≡ decimal n
unfolding signed
signed_pos n = refl

signed_neg : (n : ℕ) → signed (negsuc n) ≡ 45 ∷ decimal (suc n)
unfolding signed
signed_neg n = refl

digit_first : (c : ℕ) (t : List ℕ) (n : ℕ) → decimal n ≡ c ∷ t → c ≡ 45 → ⊥
digit_first c t n e q = let d : Every (Digit 10) (c ∷ t) = subst (Every (Digit 10)) e (decimal_digits n) in omega (arith, d.0.least)

module _ (most : ℕ) (small : most ≤ 4294967295) where
  none_empty : InForm (coordinate most) [] → ⊥
  none_empty f = subst NoZero (sym (signed_pos 0) ∙ ap signed (sym signed_zero) ∙ f.1) (decimal_plain 0 (omega arith))

  -- after a minus
  minus_text : (c : ℕ) (t : List ℕ) → c ≡ 45 → InForm (coordinate most) (c ∷ t) → (v : ℕ) → v ≡ value_from 10 0 t → (v ≡ 0 → ⊥) × (v ≤ most) × (decimal v ≡ t)
  minus_text c t e f zero q = absurd (
      let w : signed_value (c ∷ t) ≡ pos 0 = signed_minus c t e ∙ ap minus (sym q) in
      digit_first c t 0 (sym (signed_pos 0) ∙ ap signed (sym w) ∙ f.1) e
      )
  minus_text c t e f (suc v) q =
      let w : signed_value (c ∷ t) ≡ negsuc v = signed_minus c t e ∙ ap minus (sym q) in
      let d : 45 ∷ decimal (suc v) ≡ c ∷ t = sym (signed_neg v) ∙ ap signed (sym w) ∙ f.1 in
      let d' : decimal (suc v) ≡ t = cc in
      (λ z. omega arith, subst (λ (z : ℤ). nat_abs z ≤ most) w f.0, d')

  minus_form : (c : ℕ) (t : List ℕ) → c ≡ 45 → InForm (natural most) t → (v : ℕ) → v ≡ value_from 10 0 t → (v ≡ 0 → ⊥) → InForm (coordinate most) (c ∷ t)
  minus_form c t e f zero q n = absurd (n refl)
  minus_form c t e f (suc v) q n =
      let w : signed_value (c ∷ t) ≡ negsuc v = signed_minus c t e ∙ ap minus (sym q) in
      let d : decimal (suc v) ≡ t = ap decimal q ∙ f.1 in
      (subst (λ (z : ℤ). nat_abs z ≤ most) (sym w) (omega (arith, f.0)), ap signed w ∙ signed_neg v ∙ ap (λ (l : List ℕ). 45 ∷ l) d ∙ ap (λ (x : ℕ). x ∷ t) (sym e))

  pub minus_bad : (t : List ℕ) → get_or t 0 0 ≡ 45 → (InForm (natural most) (drop 1 t) → ⊥) → InForm (coordinate most) t → ⊥
  minus_bad [] e n f = none_empty f
  minus_bad (c ∷ t) e n f = let w = minus_text c t e f (value_from 10 0 t) refl in n (w.1, w.2)

  pub minus_zero : (t : List ℕ) → get_or t 0 0 ≡ 45 → value_from 10 0 (drop 1 t) ≡ 0 → InForm (coordinate most) t → ⊥
  minus_zero [] e n f = none_empty f
  minus_zero (c ∷ t) e n f = let w = minus_text c t e f (value_from 10 0 t) refl in w.0 n

  pub minus_good : (t : List ℕ) → get_or t 0 0 ≡ 45 → InForm (natural most) (drop 1 t) → (value_from 10 0 (drop 1 t) ≡ 0 → ⊥) →
      InForm (coordinate most) t × (signed_value t ≡ minus (value_from 10 0 (drop 1 t)))
  minus_good [] e f n = absurd (omega arith)
  minus_good (c ∷ t) e f n = (minus_form c t e f (value_from 10 0 t) refl n, signed_minus c t e)

  pub plain_bad : (t : List ℕ) → (get_or t 0 0 ≡ 45 → ⊥) → (InForm (natural most) t → ⊥) → InForm (coordinate most) t → ⊥
  plain_bad [] e n f = none_empty f
  plain_bad (c ∷ t) e n f =
      let w = signed_no_minus c t e in n (subst (λ (z : ℤ). nat_abs z ≤ most) w f.0, sym (signed_pos _) ∙ ap signed (sym w) ∙ f.1)

  pub plain_good : (t : List ℕ) → (get_or t 0 0 ≡ 45 → ⊥) → InForm (natural most) t → InForm (coordinate most) t × (signed_value t ≡ pos (value_from 10 0 t))
  plain_good [] e f = absurd (number_form most (omega arith) [] f).1.0
  plain_good (c ∷ t) e f =
      let w = signed_no_minus c t e in ((subst (λ (z : ℤ). nat_abs z ≤ most) (sym w) f.0, ap signed w ∙ signed_pos _ ∙ f.1), w)

-- whether a text begins with a minus
pub minus_there : (t : List ℕ) → bytes_eq (take 1 t) (45 ∷ []) ≡ true → get_or t 0 0 ≡ 45
minus_there [] e = absurd (false≢true e)
minus_there (c ∷ t) e = let d = (bytes_eq-Decides (c ∷ []) (45 ∷ [])).0 e in ap (λ (l : List ℕ). get_or l 0 0) d

pub minus_none : (t : List ℕ) → bytes_eq (take 1 t) (45 ∷ []) ≡ false → get_or t 0 0 ≡ 45 → ⊥
minus_none [] e q = omega arith
minus_none (c ∷ t) e q = true≢false (sym ((bytes_eq-Decides (c ∷ []) (45 ∷ [])).1 (ap (λ (x : ℕ). x ∷ []) q)) ∙ e)

-- 0 less a number, in i32
neg_is : (n : ℕ) → pos 0 -ℤ pos n ≡ minus n
neg_is zero = refl
neg_is (suc n) = let e : suc n - suc 0 ≡ n = omega arith in rw (lt-ltb 0 (suc n) (omega arith)) (ap negsuc e)

pub minus_fits : (n : ℕ) → n ≤ 1000000 → SFits w32 (minus n)
minus_fits zero h = record { sfits = omega arith }
minus_fits (suc n) h = record { sfits = omega arith }

neg_i32 : (n : ℕ) → n ≤ 1000000 → pos 0 -ℤ to_z w32 n ≡ minus n
neg_i32 n h = ap (λ (z : ℤ). pos 0 -ℤ z) (to_z_pos w32 {n = n} (omega arith)) ∙ neg_is n

pub neg_fits : (n : ℕ) → n ≤ 1000000 → SFits w32 (pos 0 -ℤ to_z w32 n)
neg_fits n h = subst (SFits w32) (sym (neg_i32 n h)) (minus_fits n h)

pub neg_held : (n : ℕ) → n ≤ 1000000 → to_z w32 (of_z w32 (pos 0 -ℤ to_z w32 n)) ≡ minus n
neg_held n h = to_z-of_z (neg_fits n h) ∙ neg_i32 n h

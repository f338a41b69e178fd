-- A line that must hold a known number, read as any number and compared.
-- Assumes nothing.
use Prim.Native.Nat.{ℕ, ◌^◌, ◌≤◌, ◌<◌}
use mathlib.Core.Path.{◌≡◌, refl, ap, sym, ◌∙◌}
use mathlib.Core.List.{List}
use native.Mathlib.Omega.{arith}
use Rattle.lines.specs.Text.{decimal, value_from}
use Rattle.lines.specs.Form.{InForm, in_form, natural, word}
use Rattle.lines.specs.Line.{Cut, line, none, due, line_of, read_line, refused, got, value_by}
use Rattle.lines.proofs.NumberLaws.{decimal_value}

module _ (key : List ℕ) (most i n : ℕ) (s : List ℕ) (small : most < 10 ^ 20) (within : i ≤ most) where
  number_of : (t : List ℕ) → decimal i ≡ t → InForm (natural most) t × (value_from 10 0 t ≡ i)
  number_of t e =
      let v : value_from 10 0 t ≡ i = ap (value_from 10 0) (sym e) ∙ decimal_value i (omega arith) in
      ((omega arith, ap decimal v ∙ e), v)

  pub number_refused : (c l : ℕ) → read_line key (natural most) n s ≡ refused c l → read_line key (word (decimal i)) n s ≡ refused c l
  unfolding read_line
  number_refused c l e = go (due key s) e
    where
      word_form : (t r : List ℕ) (d : Dec (InForm (natural most) t)) (w : Dec (InForm (word (decimal i)) t)) → value_by (natural most) n t r d ≡ refused c l →
          value_by (word (decimal i)) n t r w ≡ refused c l
      word_form t r (yes _) w e = absurd (let z : ◌≡◌ {A = ℕ} 0 1 = cc in omega arith)
      word_form t r (no k) (yes h) e = absurd (k (number_of t h.1).0)
      word_form t r (no k) (no _) e = cc

      go : (k : Cut) → line_of (natural most) n k ≡ refused c l → line_of (word (decimal i)) n k ≡ refused c l
      go none e = cc
      go (line t r) e = word_form t r (in_form (natural most) t) (in_form (word (decimal i)) t) e

  pub number_same : (r : List ℕ) → read_line key (natural most) n s ≡ got i r → read_line key (word (decimal i)) n s ≡ got tt r
  unfolding read_line
  number_same r e = go (due key s) e
    where
      word_form : (t r' : List ℕ) (d : Dec (InForm (natural most) t)) (w : Dec (InForm (word (decimal i)) t)) → value_by (natural most) n t r' d ≡ got i r →
          value_by (word (decimal i)) n t r' w ≡ got tt r
      word_form t r' (yes h) (yes _) e = let p : r' ≡ r = cc in ap (λ (x : List ℕ). got tt x) p
      word_form t r' (yes h) (no k) e = let p : value_from 10 0 t ≡ i = cc in absurd (k (tt, ap decimal (sym p) ∙ h.1))
      word_form t r' (no k) w e = absurd (let z : ◌≡◌ {A = ℕ} 0 1 = cc in omega arith)

      go : (k : Cut) → line_of (natural most) n k ≡ got i r → line_of (word (decimal i)) n k ≡ got tt r
      go none e = absurd (let z : ◌≡◌ {A = ℕ} 0 1 = cc in omega arith)
      go (line t r') e = word_form t r' (in_form (natural most) t) (in_form (word (decimal i)) t) e

  pub number_other : (v : ℕ) (r : List ℕ) → read_line key (natural most) n s ≡ got v r → (v ≡ i → ⊥) → read_line key (word (decimal i)) n s ≡ refused 52 n
  unfolding read_line
  number_other v r e o = go (due key s) e
    where
      word_form : (t r' : List ℕ) (d : Dec (InForm (natural most) t)) (w : Dec (InForm (word (decimal i)) t)) → value_by (natural most) n t r' d ≡ got v r →
          value_by (word (decimal i)) n t r' w ≡ refused 52 n
      word_form t r' (yes h) (yes w) e = let p : value_from 10 0 t ≡ v = cc in absurd (o (sym p ∙ (number_of t w.1).1))
      word_form t r' (yes h) (no _) e = refl
      word_form t r' (no k) w e = absurd (let z : ◌≡◌ {A = ℕ} 0 1 = cc in omega arith)

      go : (k : Cut) → line_of (natural most) n k ≡ got v r → line_of (word (decimal i)) n k ≡ refused 52 n
      go none e = absurd (let z : ◌≡◌ {A = ℕ} 0 1 = cc in omega arith)
      go (line t r') e = word_form t r' (in_form (natural most) t) (in_form (word (decimal i)) t) e

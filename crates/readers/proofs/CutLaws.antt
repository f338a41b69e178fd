-- A line is found by its first line feed.
-- Assumes nothing.
use Prim.Native.Nat.{ℕ, zero, suc, ◌+◌, ◌-◌, ◌≤◌, ◌<◌, min}
use mathlib.Core.Path.{◌≡◌, refl, ap, ap₂, sym, ◌∙◌, subst}
use mathlib.Core.Bool.{true, false, true≢false}
use mathlib.Core.List.{List, [], ◌∷◌}
use native.Mathlib.Omega.{arith}
use lib.ListN.{length, take, drop, get_or, length-take, length-drop}
use lib.Seq.{get_or-take, drop-drop, take_all}
use denote.Ref.{Bor}
use Rattle.std.specs.Str.{bytes_eq}
use Rattle.std.proofs.lemmas.Slice.Eq.{bytes_eq-Decides}
use Rattle.readers.specs.declared.Line.{Line}
use Rattle.std.specs.Prelude.{Option, Some, None, MatchOption}
use Rattle.std.specs.List.{AllWithin, HoldsAt}
use Rattle.lines.specs.Form.{Form, InForm, in_form}
use Rattle.lines.specs.Line.{line, none, onto, cut, Keyed, keyed, unkey, due, longest, line_of, value_by, read_line, refused, got}
use Rattle.readers.specs.Readers.{Ends, Due}
use Rattle.lines.proofs.FormLaws.{NoFeed}
use Rattle.lines.proofs.LineLaws.{feed_yes, feed_no}

cut_found : (room j : ℕ) (s : List ℕ) → j ≤ room → j < length s → ((k : ℕ) → k < j → NoFeed (get_or s k 0)) → get_or s j 0 ≡ 10 → cut room s ≡ line (take j s) (drop (suc j) s)
unfolding cut
cut_found room j [] h l f e = absurd (omega arith)
cut_found zero zero (c ∷ s) h l f e = feed_yes c (line [] s) none e
cut_found zero (suc j) (c ∷ s) h l f e = absurd (omega arith)
cut_found (suc room) zero (c ∷ s) h l f e = feed_yes c (line [] s) (onto c (cut room s)) e
cut_found (suc room) (suc j) (c ∷ s) h l f e =
    feed_no c (line [] s) (onto c (cut room s)) (f 0 (omega arith))
    ∙ ap (onto c) (cut_found room j s (omega arith) (omega arith) (λ k b. f (suc k) (omega arith)) e)

cut_none : (room : ℕ) (s : List ℕ) → ((k : ℕ) → k ≤ room → k < length s → NoFeed (get_or s k 0)) → cut room s ≡ none
unfolding cut
cut_none room [] f = refl
cut_none zero (c ∷ s) f = feed_no c (line [] s) none (f 0 (omega arith) (omega arith))
cut_none (suc room) (c ∷ s) f =
    feed_no c (line [] s) (onto c (cut room s)) (f 0 (omega arith) (omega arith))
    ∙ ap (onto c) (cut_none room s (λ k a b. f (suc k) (omega arith) (omega arith)))

-- the first line feed among the first bytes of t, as many as a line may have and one more
pub ends_first : (t : List ℕ) (r : Option ℕ) (n : ℕ) → n ≡ min (length t) 41 → MatchOption r (AllWithin NoFeed (take n t) 0 (length (take n t))) (λ i. (i < length (take n t)) × HoldsAt (λ c. c ≡ 10) (take n t) i × AllWithin NoFeed (take n t) 0 i) → Ends t r
ends_first t None n q h = cut_none longest t (λ k a b e. h k 0 (omega arith) (omega (arith, length-take n t)) (get_or-take n t k 0 (omega arith) ∙ e))
ends_first t (Some i) n q h =
    let l : i < n = omega (arith, length-take n t, h.0) in
    let m : suc i ≡ i + 1 = omega arith in (
      omega arith,
      cut_found longest i t (omega arith) (omega arith) (λ k b e. h.2 k 0 (omega arith) b (get_or-take n t k 0 (omega arith) ∙ e)) (sym (get_or-take n t i 0 l) ∙ h.1 0)
          ∙ ap (λ (k : ℕ). line (take i t) (drop k t)) m,
    )

-- the line at `at` has the due key, or not
module _ (key s : List ℕ) (at : ℕ) where
  abbrev pub rest : List ℕ
  rest = take (length s - at) (drop at s)

  rest_is : rest ≡ drop at s
  rest_is = take_all (length s - at) (drop at s) (omega (arith, length-drop at s))

  no_value : (r : Option (Line (Bor (List ℕ)))) → r ≡ None → due key (drop at s) ≡ none → Due s at key r
  no_value r q e = subst (Due s at key) (sym q) e

  pub due_none : (r : Option (Line (Bor (List ℕ)))) → r ≡ None → cut longest rest ≡ none → Due s at key r
  unfolding due
  due_none r q e = no_value r q (ap (λ (t : List ℕ). unkey key (cut longest t)) (sym rest_is) ∙ ap (unkey key) e)

  module _ (n : ℕ) (e : cut longest rest ≡ line (take n rest) (drop (n + 1) rest)) where
    pub due_other : (r : Option (Line (Bor (List ℕ)))) → r ≡ None → bytes_eq (take (length key) (take n rest)) key ≡ false → Due s at key r
    unfolding due
    due_other r q f = no_value r q (ap (λ (t : List ℕ). unkey key (cut longest t)) (sym rest_is) ∙ ap (unkey key) e ∙ go (keyed key (take n rest)))
      where
        go : (d : Dec (Keyed key (take n rest))) → elim d [ yes _ ↦ line (drop (length key) (take n rest)) (drop (n + 1) rest) | no _ ↦ none ] ≡ none
        go (yes k) = absurd (true≢false (sym ((bytes_eq-Decides (take (length key) (take n rest)) key).1 k) ∙ f))
        go (no _) = refl

    pub due_value : bytes_eq (take (length key) (take n rest)) key ≡ true → (v : List ℕ) → v ≡ drop (length key) (take n rest) → n < length rest → at ≤ length s → (at + n + 1 ≤ length s) × (due key (drop at s) ≡ line v (drop (at + n + 1) s))
    unfolding due
    due_value f v q l h = (
      omega (arith, ap length rest_is, length-drop at s),
      ap (λ (t : List ℕ). unkey key (cut longest t)) (sym rest_is)
          ∙ ap (unkey key) e
          ∙ go (keyed key (take n rest))
          ∙ ap₂ (λ (t r : List ℕ). line t r) (sym q) (ap (drop (n + 1)) rest_is ∙ drop-drop (n + 1) at s ∙ ap (λ (k : ℕ). drop k s) (omega arith)),
    )
      where
        go : (d : Dec (Keyed key (take n rest))) → elim d [ yes _ ↦ line (drop (length key) (take n rest)) (drop (n + 1) rest) | no _ ↦ none ] ≡ line (drop (length key) (take n rest)) (drop (n + 1) rest)
        go (yes _) = refl
        go (no k) = absurd (k ((bytes_eq-Decides (take (length key) (take n rest)) key).0 f))

-- what the line is read as
module _ {A : Type 0} (f : Form A) (key s : List ℕ) where
  pub read_missing : due key s ≡ none → (n : ℕ) → read_line key f n s ≡ refused 51 n
  unfolding read_line
  read_missing e n = ap (line_of f n) e

  module _ (t r : List ℕ) (e : due key s ≡ line t r) where
    pub read_out_of_form : (InForm f t → ⊥) → (n : ℕ) → read_line key f n s ≡ refused 52 n
    unfolding read_line
    read_out_of_form k n = ap (line_of f n) e ∙ go (in_form f t)
      where
        go : (i : Dec (InForm f t)) → value_by f n t r i ≡ refused 52 n
        go (yes h) = absurd (k h)
        go (no _) = refl

    pub read_value : (a : A) → InForm f t → a ≡ f.value t → (n : ℕ) → read_line key f n s ≡ got a r
    unfolding read_line
    read_value a h q n = ap (line_of f n) e ∙ go (in_form f t)
      where
        go : (i : Dec (InForm f t)) → value_by f n t r i ≡ got a r
        go (yes _) = ap (λ (v : A). got v r) (sym q)
        go (no k) = absurd (k h)

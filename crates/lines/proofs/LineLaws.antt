-- A line is read back, and what is read well is that line, byte for byte.
-- Assumes nothing.
use Prim.Native.Nat.{ℕ, zero, suc, ◌≤◌}
use mathlib.Core.Path.{◌≡◌, refl, ap, ap₂, sym, ◌∙◌, subst}
use mathlib.Core.List.{List, [], ◌∷◌, ◌++◌, append_assoc}
use native.Mathlib.Decide.{ℕ_discrete}
use native.Mathlib.Omega.{arith}
use lib.ListN.{length, drop, length-append, take-append-drop}
use lib.Seq.{take-append_seam, drop-append_seam}
use Rattle.lines.specs.Form.{Form, InForm, in_form}
use Rattle.lines.specs.Line.{Cut, line, none, onto, cut, got, value_by, Keyed, keyed, unkey, longest, due, line_of, read_line, line_text}
use Rattle.lines.proofs.DigitLaws.{Every, every_append}
use Rattle.lines.proofs.FormLaws.{NoFeed, Sound}

-- the line that bytes begin with
pub feed_yes : {A : Type 0} (c : ℕ) (x y : A) → c ≡ 10 → elim (ℕ_discrete c 10) [ yes _ ↦ x | no _ ↦ y ] ≡ x
feed_yes c x y e = go (ℕ_discrete c 10)
  where
    go : (d : Dec (c ≡ 10)) → elim d [ yes _ ↦ x | no _ ↦ y ] ≡ x
    go (yes _) = refl
    go (no h) = absurd (h e)

pub feed_no : {A : Type 0} (c : ℕ) (x y : A) → NoFeed c → elim (ℕ_discrete c 10) [ yes _ ↦ x | no _ ↦ y ] ≡ y
feed_no c x y n = go (ℕ_discrete c 10)
  where
    go : (d : Dec (c ≡ 10)) → elim d [ yes _ ↦ x | no _ ↦ y ] ≡ y
    go (yes e) = absurd (n e)
    go (no h) = refl

pub cut_text : (room : ℕ) (t rest : List ℕ) → length t ≤ room → Every NoFeed t → cut room (t ++ (10 ∷ rest)) ≡ line t rest
unfolding cut
cut_text zero [] rest h p = refl
cut_text (suc room) [] rest h p = refl
cut_text zero (c ∷ t) rest h p = absurd (omega arith)
cut_text (suc room) (c ∷ t) rest h p =
    feed_no c (line [] (t ++ (10 ∷ rest))) (onto c (cut room (t ++ (10 ∷ rest)))) p.0
    ∙ ap (onto c) (cut_text room t rest (omega arith) p.1)

cut_here : (c : ℕ) (s t rest : List ℕ) → c ≡ 10 → line [] s ≡ line t rest → c ∷ s ≡ t ++ (10 ∷ rest)
cut_here c s t rest q e =
    let a : [] ≡ t = cc in
    let b : s ≡ rest = cc in
    ap₂ (λ (x : ℕ) (l : List ℕ). x ∷ l) q b ∙ ap (λ (l : List ℕ). l ++ (10 ∷ rest)) a

-- what a line that was found says of the bytes
pub cut_is : (room : ℕ) (s t rest : List ℕ) → cut room s ≡ line t rest → s ≡ t ++ (10 ∷ rest)
unfolding cut
cut_is room [] t rest e = absurd (let z : ◌≡◌ {A = ℕ} 0 1 = cc in omega arith)
cut_is zero (c ∷ s) t rest e = go (ℕ_discrete c 10) e
  where
    go : (d : Dec (c ≡ 10)) → elim d [ yes _ ↦ line [] s | no _ ↦ none ] ≡ line t rest → c ∷ s ≡ t ++ (10 ∷ rest)
    go (yes q) e = cut_here c s t rest q e
    go (no h) e = absurd (let z : ◌≡◌ {A = ℕ} 0 1 = cc in omega arith)
cut_is (suc room) (c ∷ s) t rest e = go (ℕ_discrete c 10) e (λ t' rest' q. cut_is room s t' rest' q)
  where
    on : (k : Cut) → cut room s ≡ k → onto c k ≡ line t rest → ((t' rest' : List ℕ) → cut room s ≡ line t' rest' → s ≡ t' ++ (10 ∷ rest')) → c ∷ s ≡ t ++ (10 ∷ rest)
    on (line t' rest') q e f =
        let a : c ∷ t' ≡ t = cc in
        let b : rest' ≡ rest = cc in
        ap (λ (l : List ℕ). c ∷ l) (f t' rest' q) ∙ ap₂ (λ (l m : List ℕ). l ++ (10 ∷ m)) a b
    on none q e f = absurd (let z : ◌≡◌ {A = ℕ} 0 1 = cc in omega arith)

    go : (d : Dec (c ≡ 10)) → elim d [ yes _ ↦ line [] s | no _ ↦ onto c (cut room s) ] ≡ line t rest →
        ((t' rest' : List ℕ) → cut room s ≡ line t' rest' → s ≡ t' ++ (10 ∷ rest')) → c ∷ s ≡ t ++ (10 ∷ rest)
    go (yes q) e f = cut_here c s t rest q e
    go (no h) e f = on (cut room s) refl e f

-- and what the value of a due line says
pub due_is : (key s t rest : List ℕ) → due key s ≡ line t rest → s ≡ (key ++ t) ++ (10 ∷ rest)
unfolding due
due_is key s t rest e = go (cut longest s) refl e
  where
    with_key : (u r : List ℕ) → s ≡ u ++ (10 ∷ r) → (d : Dec (Keyed key u)) → elim d [ yes _ ↦ line (drop (length key) u) r | no _ ↦ none ] ≡ line t rest → s ≡ (key ++ t) ++ (10 ∷ rest)
    with_key u r h (no k) e = absurd (let z : ◌≡◌ {A = ℕ} 0 1 = cc in omega arith)
    with_key u r h (yes k) e =
        let x : drop (length key) u ≡ t = cc in
        let y : r ≡ rest = cc in
        h ∙ ap₂ (λ (v w : List ℕ). v ++ (10 ∷ w)) (sym (take-append-drop (length key) u) ∙ ap₂ (λ (v w : List ℕ). v ++ w) k x) y

    go : (k : Cut) → cut longest s ≡ k → unkey key k ≡ line t rest → s ≡ (key ++ t) ++ (10 ∷ rest)
    go none h e = absurd (let z : ◌≡◌ {A = ℕ} 0 1 = cc in omega arith)
    go (line u r) h e = with_key u r (cut_is longest s u r h) (keyed key u) e

-- both laws of one line
module _ {A : Type 0} (key : List ℕ) (f : Form A) (clean : Every NoFeed key) (short : length key ≤ 19) (sound : Sound f) where
  due_text : (a : A) (rest : List ℕ) → f.Fits a → due key (line_text key f a ++ rest) ≡ line (f.text a) rest
  unfolding due
  due_text a rest h =
      ap (λ (s : List ℕ). unkey key (cut longest s)) shape
      ∙ ap (unkey key) (cut_text longest (key ++ f.text a) rest (omega (arith, length-append key (f.text a), sound.short a h)) (every_append NoFeed key (f.text a) clean (sound.plain a h)))
      ∙ with_key (keyed key (key ++ f.text a))
    where
      shape : line_text key f a ++ rest ≡ (key ++ f.text a) ++ (10 ∷ rest)
      shape = simp append_assoc

      with_key : (d : Dec (Keyed key (key ++ f.text a))) → elim d [ yes _ ↦ line (drop (length key) (key ++ f.text a)) rest | no _ ↦ none ] ≡ line (f.text a) rest
      with_key (yes _) = ap (λ (t : List ℕ). line t rest) (drop-append_seam key (f.text a))
      with_key (no k) = absurd (k (take-append_seam key (f.text a)))

  pub line_back : (n : ℕ) (a : A) (rest : List ℕ) → f.Fits a → read_line key f n (line_text key f a ++ rest) ≡ got a rest
  unfolding read_line
  line_back n a rest h = ap (line_of f n) (due_text a rest h) ∙ in_form_lem (in_form f (f.text a))
    where
      in_form_lem : (d : Dec (InForm f (f.text a))) → value_by f n (f.text a) rest d ≡ got a rest
      in_form_lem (yes _) = ap (λ (b : A). got b rest) (sound.back a h)
      in_form_lem (no k) = absurd (k (subst f.Fits (sym (sound.back a h)) h, ap f.text (sound.back a h)))

  pub line_whole : (n : ℕ) (s : List ℕ) (a : A) (rest : List ℕ) → read_line key f n s ≡ got a rest → f.Fits a × (s ≡ line_text key f a ++ rest)
  unfolding read_line
  line_whole n s a rest e = go (due key s) refl e
    where
      in_form_lem : (t r : List ℕ) → s ≡ (key ++ t) ++ (10 ∷ r) → (d : Dec (InForm f t)) → value_by f n t r d ≡ got a rest →
          f.Fits a × (s ≡ line_text key f a ++ rest)
      in_form_lem t r h (no k) e = absurd (let z : ◌≡◌ {A = ℕ} 0 1 = cc in omega arith)
      in_form_lem t r h (yes k) e =
          let x : f.value t ≡ a = cc in
          let y : r ≡ rest = cc in
          let shape : (key ++ f.text a) ++ (10 ∷ rest) ≡ line_text key f a ++ rest = simp append_assoc in (
            subst f.Fits x k.0,
            h ∙ ap₂ (λ (t r : List ℕ). (key ++ t) ++ (10 ∷ r)) (sym k.1 ∙ ap f.text x) y ∙ shape,
          )

      go : (k : Cut) → due key s ≡ k → line_of f n k ≡ got a rest → f.Fits a × (s ≡ line_text key f a ++ rest)
      go none h e = absurd (let z : ◌≡◌ {A = ℕ} 0 1 = cc in omega arith)
      go (line t r) h e = in_form_lem t r (due_is key s t r h) (in_form f t) e

-- A sheet of any parts is read back, and what is read well is that sheet, byte for byte.
-- Assumes nothing.
use Prim.Native.Nat.{ℕ, zero, suc, ◌+◌}
use mathlib.Core.Path.{◌≡◌, refl, ap, sym, ◌∙◌, subst}
use mathlib.Core.List.{List, [], ◌∷◌, ◌++◌, append_assoc, append-nil}
use mathlib.Core.Bool.{Bool, true, false, ◌&&◌}
use lib.Dec.{T, leb, leb→le}
use native.Mathlib.Omega.{arith}
use lib.ListN.{length}
use Rattle.lines.specs.Form.{Form}
use Rattle.lines.specs.Line.{clear, fair, Got, refused, got}
use Rattle.lines.specs.Part.{next, Part, one_line, nothing, and_then, viewed, after, before, FitsOf, text_of, listed, several, accepted, ended, read_all}
use Rattle.lines.proofs.FormLaws.{every_clear, Sound}
use Rattle.lines.proofs.LineLaws.{line_back, line_whole}

-- reading the text of a value gives the value, and what is read well is the text of a value that fits
pub record Lawful {A : Type 0} (p : Part A) : Type 0 where
  pub back : (n : ℕ) (a : A) (rest : List ℕ) → p.Fits a → p.read n (p.text a ++ rest) ≡ got a rest
  pub whole : (n : ℕ) (s : List ℕ) (a : A) (rest : List ℕ) → p.read n s ≡ got a rest → p.Fits a × (s ≡ p.text a ++ rest)

pub lawful_nothing : {A : Type 0} (a : A) → Lawful (nothing a)
lawful_nothing a = record {
  back = λ n b rest f. ap (λ x. got x rest) (sym f);
  whole = λ n s b rest e. let p : b ≡ a = cc in let q : s ≡ rest = cc in (p, q);
}

-- a value that was made of what was read
record Made {A B : Type 0} (g : Got A) (f : A → B) (b : B) (rest : List ℕ) : Type 0 where
  from : A
  read : g ≡ got from rest
  makes : f from ≡ b

made : {A B : Type 0} (g : Got A) (f : A → B) (b : B) (rest : List ℕ) → next g (λ a r. got (f a) r) ≡ got b rest → Made g f b rest
made (refused c l) f b rest e = absurd (let z : ◌≡◌ {A = ℕ} 0 1 = cc in omega arith)
made (got a r) f b rest e =
    let x : f a ≡ b = cc in
    let y : r ≡ rest = cc in
    record { from = a; read = ap (λ (t : List ℕ). got a t) y; makes = x }

module _ {A B : Type 0} (p : Part A) (q : A → Part B) (l : Lawful p) (m : (a : A) → Lawful (q a)) where
  then_back : (n : ℕ) (w : A × B) (rest : List ℕ) → (and_then p q).Fits w → (and_then p q).read n ((and_then p q).text w ++ rest) ≡ got w rest
  then_back n w rest f =
      let k : A → List ℕ → Got (A × B) = λ a r. next ((q a).read (n + p.lines a) r) (λ b r'. got (a, b) r') in
      ap (λ (s : List ℕ). next (p.read n s) k) (append_assoc (p.text w.0) ((q w.0).text w.1) rest)
      ∙ ap (λ (g : Got A). next g k) (l.back n w.0 ((q w.0).text w.1 ++ rest) f.0)
      ∙ ap (λ (g : Got B). next g (λ b r'. got (w.0, b) r')) ((m w.0).back (n + p.lines w.0) w.1 rest f.1)

  then_whole : (n : ℕ) (s : List ℕ) (w : A × B) (rest : List ℕ) → (and_then p q).read n s ≡ got w rest → (and_then p q).Fits w × (s ≡ (and_then p q).text w ++ rest)
  then_whole n s w rest e = go (p.read n s) refl e
    where
      go : (g : Got A) → p.read n s ≡ g → next g (λ a r. next ((q a).read (n + p.lines a) r) (λ b r'. got (a, b) r')) ≡ got w rest →
          (and_then p q).Fits w × (s ≡ (and_then p q).text w ++ rest)
      go (refused c k) h e = absurd (let z : ◌≡◌ {A = ℕ} 0 1 = cc in omega arith)
      go (got a r) h e =
          let k = made ((q a).read (n + p.lines a) r) (λ (b : B). (a, b)) w rest e in
          let u = l.whole n s a r h in
          let v = (m a).whole (n + p.lines a) r k.from rest k.read in
          subst (λ (w : A × B). (and_then p q).Fits w × (s ≡ (and_then p q).text w ++ rest)) k.makes
          ((u.0, v.0), u.1 ∙ ap (λ (t : List ℕ). p.text a ++ t) v.1 ∙ sym (append_assoc (p.text a) ((q a).text k.from) rest))

  pub lawful_then : Lawful (and_then p q)
  lawful_then = record { back = then_back; whole = then_whole }

module _ {A B : Type 0} (f : A → B) (g : B → A) (p : Part A) (l : Lawful p) (gf : (a : A) → p.Fits a → g (f a) ≡ a) where
  viewed_whole : (n : ℕ) (s : List ℕ) (b : B) (rest : List ℕ) → (viewed f g p).read n s ≡ got b rest → (viewed f g p).Fits b × (s ≡ p.text (g b) ++ rest)
  viewed_whole n s b rest e =
      let k = made (p.read n s) f b rest e in
      let u = l.whole n s k.from rest k.read in
      let z : k.from ≡ g b = sym (gf k.from u.0) ∙ ap g k.makes in
      let v = subst (λ (a : A). p.Fits a × (s ≡ p.text a ++ rest)) z u in
      ((ap f (sym z) ∙ k.makes, v.0), v.1)

  pub lawful_viewed : Lawful (viewed f g p)
  lawful_viewed = record {
    back = λ n b rest h. ap (λ (k : Got A). next k (λ a r. got (f a) r)) (l.back n (g b) rest h.1) ∙ ap (λ (x : B). got x rest) h.0;
    whole = viewed_whole;
  }

module _ {A : Type 0} (p : Part (Unit {0})) (q : Part A) (l : Lawful p) (m : Lawful q) where
  pub lawful_after : Lawful (after p q)
  lawful_after = lawful_viewed (λ w. w.1) (λ a. (tt, a)) (and_then p (λ _. q)) (lawful_then p (λ _. q) l (λ _. m)) (λ w h. refl)

  pub lawful_before : Lawful (before q p)
  lawful_before = lawful_viewed (λ w. w.0) (λ a. (a, tt)) (and_then q (λ _. p)) (lawful_then q (λ _. p) m (λ _. l)) (λ w h. refl)

module _ {A : Type 0} (p : Part (A × List A)) (l : Lawful p) where
  listed_back : (n : ℕ) (b : List A) (rest : List ℕ) → FitsOf p b → (listed p).read n (text_of p b ++ rest) ≡ got b rest
  listed_back n [] rest h = absurd h
  listed_back n (a ∷ b) rest h = ap (λ (k : Got (A × List A)). next k (λ w r. got (w.0 ∷ w.1) r)) (l.back n (a, b) rest h)

  listed_whole : (n : ℕ) (s : List ℕ) (b : List A) (rest : List ℕ) → (listed p).read n s ≡ got b rest → FitsOf p b × (s ≡ text_of p b ++ rest)
  listed_whole n s b rest e =
      let k = made (p.read n s) (λ (w : A × List A). w.0 ∷ w.1) b rest e in
      subst (λ (b : List A). FitsOf p b × (s ≡ text_of p b ++ rest)) k.makes (l.whole n s k.from rest k.read)

  pub lawful_listed : Lawful (listed p)
  lawful_listed = record { back = listed_back; whole = listed_whole }

pub lawful_several : {A : Type 0} (q : ℕ → Part A) → ((i : ℕ) → Lawful (q i)) → (k i : ℕ) → Lawful (several q k i)
unfolding several
lawful_several q m zero i = lawful_nothing []
lawful_several q m (suc k) i = lawful_listed (and_then (q i) (λ _. several q k (suc i))) (lawful_then (q i) (λ _. several q k (suc i)) (m i) (λ _. lawful_several q m k (suc i)))

pub both : (a b : Bool) → T (a && b) → T a × T b
both true b h = (tt, h)
both false b h = absurd h

pub lawful_line : {A : Type 0} (key : List ℕ) (f : Form A) → T (fair key) → Sound f → Lawful (one_line key f)
lawful_line key f h sound =
    let w = both (leb (length key) 19) (clear key) h in
    let plain = every_clear key w.1 in
    let short = leb→le (length key) 19 w.0 in
    record { back = line_back key f plain short sound; whole = line_whole key f plain short sound }

-- both laws of a whole sheet
module _ {A : Type 0} (p : Part A) (l : Lawful p) where
  pub all_back : (a : A) → p.Fits a → read_all p (p.text a) ≡ accepted a
  unfolding read_all
  all_back a h = ap (λ (s : List ℕ). ended p (p.read 1 s)) (sym (append-nil (p.text a))) ∙ ap (ended p) (l.back 1 a [] h)

  pub all_whole : (s : List ℕ) (a : A) → read_all p s ≡ accepted a → p.Fits a × (p.text a ≡ s)
  unfolding read_all
  all_whole s a e = go (p.read 1 s) refl e
    where
      go : (k : Got A) → p.read 1 s ≡ k → ended p k ≡ accepted a → p.Fits a × (p.text a ≡ s)
      go (refused c k) h e = absurd (let z : ◌≡◌ {A = ℕ} 0 1 = cc in omega arith)
      go (got b (c ∷ r)) h e = absurd (let z : ◌≡◌ {A = ℕ} 0 1 = cc in omega arith)
      go (got b []) h e =
          let x : b ≡ a = cc in
          let u = l.whole 1 s b [] h in
          subst (λ (a : A). p.Fits a × (p.text a ≡ s)) x (u.0, sym (u.1 ∙ append-nil (p.text b)))

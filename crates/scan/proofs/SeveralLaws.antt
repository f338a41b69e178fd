-- A loop over the parts of a sheet: those passed, and what is left to read.
-- Assumes nothing.
use Prim.Native.Nat.{ℕ, zero, suc, ◌+◌, ◌-◌, ◌*◌, ◌≤◌, ◌<◌}
use mathlib.Core.Path.{◌≡◌, refl, ap, ap₂, sym, ◌∙◌, subst}
use mathlib.Core.List.{List, [], ◌∷◌, ◌++◌, append_assoc, append-nil}
use native.Mathlib.Nat.{mul-add, mul-one}
use native.Mathlib.Omega.{arith}
use lib.ListN.{length, drop, length-append}
use Rattle.lines.specs.Line.{Got, refused, got}
use Rattle.lines.specs.Part.{next, Part, several}
use Rattle.std.specs.Prelude.{Result, Ok, Err, IsOk}
use Rattle.readers.specs.declared.Line.{Line}
use Rattle.verdict.specs.declared.Refusal.{Refusal}
use Rattle.readers.specs.Readers.{Reads}
use Rattle.scan.specs.Read.{Fine}

-- parts that were read before others
abbrev pub onto : {A : Type 0} → List A → Got (List A) → Got (List A)
onto pre (refused c l) = refused c l
onto pre (got l r) = got (pre ++ l) r

onto_none : {A : Type 0} (g : Got (List A)) → onto [] g ≡ g
onto_none (refused c l) = refl
onto_none (got l r) = refl

onto_more : {A : Type 0} (pre : List A) (a : A) (g : Got (List A)) → onto pre (next g (λ l r. got (a ∷ l) r)) ≡ onto (pre ++ (a ∷ [])) g
onto_more pre a (refused c l) = refl
onto_more pre a (got l r) = ap (λ (m : List _). got m r) (sym (append_assoc pre (a ∷ []) l))

abbrev pub pair : {A B : Type 0} → A → B → List ℕ → Got (A × B)
pair a b r = got (a, b) r

abbrev joined : {A : Type 0} → A × List A → List ℕ → Got (List A)
joined w r = got (w.0 ∷ w.1) r

fuse : {A : Type 0} (a : A) (g : Got (List A)) → next (next g (pair a)) joined ≡ next g (λ l r. got (a ∷ l) r)
fuse a (refused c l) = refl
fuse a (got l r) = refl

module _ {A : Type 0} (q : ℕ → Part A) (each : ℕ) (same : (i : ℕ) (a : A) → (q i).lines a ≡ each) where
  several_got : (k i n : ℕ) (s : List ℕ) (a : A) (r : List ℕ) → (q i).read n s ≡ got a r → (several q (suc k) i).read n s ≡ next ((several q k (suc i)).read (n + each) r) (λ l r. got (a ∷ l) r)
  unfolding several
  several_got k i n s a r e =
      ap (λ (g : Got A). next (next g (λ a r. next ((several q k (suc i)).read (n + (q i).lines a) r) (pair a))) joined) e
      ∙ fuse a ((several q k (suc i)).read (n + (q i).lines a) r)
      ∙ ap (λ (m : ℕ). next ((several q k (suc i)).read (n + m) r) (λ l r. got (a ∷ l) r)) (same i a)

  several_refused : (k i n : ℕ) (s : List ℕ) (c l : ℕ) → (q i).read n s ≡ refused c l → (several q (suc k) i).read n s ≡ refused c l
  unfolding several
  several_refused k i n s c l e =
      ap (λ (g : Got A). next (next g (λ a r. next ((several q k (suc i)).read (n + (q i).lines a) r) (pair a))) joined) e

  -- the lines of as many as there are
  pub several_lines : (k i : ℕ) (l : List A) → length l ≡ k → (several q k i).lines l ≡ each * k
  unfolding several
  several_lines zero i l h = omega arith
  several_lines (suc k) i [] h = absurd (omega arith)
  several_lines (suc k) i (a ∷ l) h = ap₂ (λ (m n : ℕ). m + n) (same i a) (several_lines k (suc i) l (omega arith)) ∙ omega (arith, mul-add each 1 k, mul-one each)

  -- i of p are read, and the next begins at `from`
  pub record Passed (s whole : List ℕ) (p first i from : ℕ) (pre : List A) : Type 0 where
    pub within : i ≤ p
    pub inside : from ≤ length s
    pub count : length pre ≡ i
    pub rest : (several q p 0).read first whole ≡ onto pre ((several q (p - i) i).read (first + each * i) (drop from s))

  pub passed_none : (s : List ℕ) (at p first : ℕ) → at ≤ length s → Passed s (drop at s) p first 0 at []
  passed_none s at p first h = record {
    within = omega arith;
    inside = h;
    count = refl;
    rest =
        let e : p ≡ p - 0 = omega arith in
        let f : first ≡ first + each * 0 = omega arith in
        ap₂ (λ (m l : ℕ). (several q m 0).read l (drop at s)) e f ∙ sym (onto_none _);
  }

  module _ (s whole : List ℕ) (p first i from : ℕ) (pre : List A) (w : Passed s whole p first i from pre) (h : i < p) where
    pub passed_more : (a : A) (to : ℕ) → to ≤ length s → (q i).read (first + each * i) (drop from s) ≡ got a (drop to s) → Passed s whole p first (i + 1) to (pre ++ (a ∷ []))
    passed_more a to b e = record {
      within = omega arith;
      inside = b;
      count = length-append pre (a ∷ []) ∙ omega (arith, w.count);
      rest =
          let k : p - i ≡ suc (p - (i + 1)) = omega arith in
          let j : suc i ≡ i + 1 = omega arith in
          let l : first + each * i + each ≡ first + each * (i + 1) = omega (arith, mul-add each i 1, mul-one each) in
          w.rest
          ∙ ap (λ (m : ℕ). onto pre ((several q m i).read (first + each * i) (drop from s))) k
          ∙ ap (onto pre) (several_got (p - (i + 1)) i (first + each * i) (drop from s) a (drop to s) e)
          ∙ onto_more pre a ((several q (p - (i + 1)) (suc i)).read (first + each * i + each) (drop to s))
          ∙ ap₂ (λ (m n : ℕ). onto (pre ++ (a ∷ [])) ((several q (p - (i + 1)) m).read n (drop to s))) j l;
    }

    pub passed_refused : (c l : ℕ) → (q i).read (first + each * i) (drop from s) ≡ refused c l → (several q p 0).read first whole ≡ refused c l
    passed_refused c l e =
        let k : p - i ≡ suc (p - (i + 1)) = omega arith in
        w.rest
        ∙ ap (λ (m : ℕ). onto pre ((several q m i).read (first + each * i) (drop from s))) k
        ∙ ap (onto pre) (several_refused (p - (i + 1)) i (first + each * i) (drop from s) c l e)

  pub passed_all : (s whole : List ℕ) (p first i from : ℕ) (pre : List A) → Passed s whole p first i from pre → p ≤ i → (several q p 0).read first whole ≡ got pre (drop from s)
  unfolding several
  passed_all s whole p first i from pre w h =
      let k : p - i ≡ 0 = omega arith in
      w.rest
      ∙ ap (λ (m : ℕ). onto pre ((several q m i).read (first + each * i) (drop from s))) k
      ∙ ap (λ (m : List A). got m (drop from s)) (append-nil pre)

-- parts that read well are not refused
pub fine_ok : {A : Type 0} (s : List ℕ) (g : Got A) (r : Result (Line A) Refusal) → Reads s g r → Fine g → IsOk r
fine_ok s g (Ok l) h f = refl
fine_ok s g (Err e) h f = absurd (subst Fine h f)

-- Numbers between two that no range divides have one family.
-- Assumes nothing.
use mathlib.Core.Path.{◌≡◌, refl, sym, ap, ap₂, ◌∙◌}
use mathlib.Core.Bool.{Bool, true, false, cond, ◌&&◌, ◌||◌}
use mathlib.Core.List.{List, [], ◌∷◌}
use Prim.Native.Nat.{ℕ, ◌≤◌, ◌<◌}
use native.Mathlib.Omega.{arith}
use lib.Dec.{T, leb, ltb, leb→le, ltb→lt}
use borrow.Author.Tests.{le-leb, lt-leb}
use Rattle.verdict.specs.Families.{Range, among, family_in}
use Rattle.verdict.specs.declared.From.{From}

-- a range has all the numbers from a to b, or none
abbrev whole : ℕ → ℕ → Range → Bool
whole a b r = (leb r.low a && leb b r.high) || (ltb r.high a || ltb b r.low)

abbrev pub undivided : ℕ → ℕ → List Range → Bool
undivided a b [] = true
undivided a b (r ∷ rs) = whole a b r && undivided a b rs

and_left : (s t : Bool) → T (s && t) → T s
and_left true t h = tt
and_left false t h = h

and_right : (s t : Bool) → T (s && t) → T t
and_right true t h = h
and_right false t h = absurd h

or_either : {X : Type 0} (s t : Bool) → (T s → X) → (T t → X) → T (s || t) → X
or_either true t f g h = f tt
or_either false t f g h = g h

and_false : (s : Bool) → (s && false) ≡ false
and_false true = refl
and_false false = refl

module _ (r : Range) where
  has : (n : ℕ) → r.low ≤ n → n ≤ r.high → among r n ≡ true
  has n h k = ap₂ ◌&&◌ (le-leb _ _ h) (le-leb _ _ k)

  after : (n : ℕ) → r.high < n → among r n ≡ false
  after n h = ap (λ (s : Bool). leb r.low n && s) (lt-leb _ _ h) ∙ and_false (leb r.low n)

  before : (n : ℕ) → n < r.low → among r n ≡ false
  before n h = ap (λ (s : Bool). s && leb n r.high) (lt-leb _ _ h)

  alike : (a b n : ℕ) → T (whole a b r) → a ≤ n → n ≤ b → among r n ≡ among r a
  alike a b n t h k =
      or_either (leb r.low a && leb b r.high) (ltb r.high a || ltb b r.low)
      (λ u.
      let l = leb→le r.low a (and_left (leb r.low a) (leb b r.high) u) in
      let m = leb→le b r.high (and_right (leb r.low a) (leb b r.high) u) in
      has n (omega arith) (omega arith) ∙ sym (has a l (omega arith)))
      (or_either (ltb r.high a) (ltb b r.low)
      (λ u. let l = ltb→lt r.high a u in after n (omega arith) ∙ sym (after a l))
      (λ u. let l = ltb→lt b r.low u in before n (omega arith) ∙ sym (before a (omega arith))))
      t

pub one_family : (rs : List Range) (a b n : ℕ) → T (undivided a b rs) → a ≤ n → n ≤ b → family_in rs a ≡ family_in rs n
unfolding family_in
one_family [] a b n t h k = refl
one_family (r ∷ rs) a b n t h k =
    ap₂ (λ (s : Bool) (f : From). cond s r.from f) (sym (alike r a b n (and_left (whole a b r) (undivided a b rs) t) h k))
    (one_family rs a b n (and_right (whole a b r) (undivided a b rs) t) h k)

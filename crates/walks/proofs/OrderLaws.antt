-- A comparison by a measure and then by an order is an order, and so is dictionary order.
-- Assumes nothing.
use mathlib.Core.Path.{◌≡◌, refl, sym, ◌∙◌}
use mathlib.Core.Bool.{Bool, true, false, true≢false}
use mathlib.Core.List.{List, [], ◌∷◌}
use mathlib.Core.Logic.{◌⊎◌, inl, inr}
use Prim.Native.Nat.{ℕ, ◌≤◌, ◌<◌}
use native.Mathlib.Omega.{arith}
use lib.Dec.{ltb}
use lib.ListN.{get_or, drop}
use borrow.Author.Tests.{ltb-true, ltb-false, lt-ltb, le-ltb}
use Rattle.walks.specs.Order.{Order, first_by, before}

-- a test is not both true and false, and false where it is not true
pub clash : {A : Type 0} {t : Bool} → t ≡ true → t ≡ false → A
clash e h = absurd (true≢false (sym e ∙ h))

pub not_true : (t : Bool) → (t ≡ true → ⊥) → t ≡ false
not_true true h = absurd (h refl)
not_true false h = refl

-- what a comparison by f and then by r says
abbrev Says : {G : Type 0} → (G → ℕ) → (G → G → Bool) → G → G → Bool → Type 0
Says f r g h true = (f g < f h) ⊎ ((f g ≡ f h) × (r g h ≡ true))
Says f r g h false = (f h < f g) ⊎ ((f g ≡ f h) × (r g h ≡ false))

module _ {G : Type 0} (f : G → ℕ) (r : G → G → Bool) where
  says : (g h : G) (t : Bool) → first_by f r g h ≡ t → Says f r g h t
  unfolding first_by
  says g h t e = go t (ltb (f g) (f h)) refl (ltb (f h) (f g)) refl e
    where
      go : (t u : Bool) → ltb (f g) (f h) ≡ u → (v : Bool) → ltb (f h) (f g) ≡ v → (elim u [ true ↦ true | false ↦ elim v [ true ↦ false | false ↦ r g h ] ]) ≡ t → Says f r g h t
      go true true a v b p = inl (ltb-true _ _ a)
      go true false a true b p = clash p refl
      go true false a false b p = inr (omega (arith, ltb-false (f g) (f h) a, ltb-false (f h) (f g) b), p)
      go false true a v b p = clash refl p
      go false false a true b p = inl (ltb-true _ _ b)
      go false false a false b p = inr (omega (arith, ltb-false (f g) (f h) a, ltb-false (f h) (f g) b), p)

  pub by_less : (g h : G) → f g < f h → first_by f r g h ≡ true
  unfolding first_by
  by_less g h l = rw (first_by, lt-ltb (f g) (f h) l)

  pub by_even : (g h : G) → f g ≡ f h → first_by f r g h ≡ r g h
  unfolding first_by
  by_even g h e = rw (first_by, le-ltb (f g) (f h) (omega arith), le-ltb (f h) (f g) (omega arith))

  -- the better one has no greater measure
  pub by_le : (g h : G) → first_by f r g h ≡ true → f g ≤ f h
  by_le g h e = go (says g h true e)
    where
      go : Says f r g h true → f g ≤ f h
      go (inl l) = omega arith
      go (inr p) = omega arith

  by_trans : (g h i : G) → (r g h ≡ true → r h i ≡ true → r g i ≡ true) → first_by f r g h ≡ true → first_by f r h i ≡ true → first_by f r g i ≡ true
  by_trans g h i t p q = go (says g h true p) (says h i true q)
    where
      go : Says f r g h true → Says f r h i true → first_by f r g i ≡ true
      go (inl a) b = by_less g i (omega (arith, by_le h i q))
      go (inr a) (inl b) = by_less g i (omega arith)
      go (inr a) (inr b) = by_even g i (a.0 ∙ b.0) ∙ t a.1 b.1

  -- two that are not told apart
  by_same : (g h : G) → first_by f r g h ≡ false → first_by f r h g ≡ false → (f g ≡ f h) × ((r g h ≡ false) × (r h g ≡ false))
  by_same g h p q = go (says g h false p) (says h g false q)
    where
      go : Says f r g h false → Says f r h g false → (f g ≡ f h) × ((r g h ≡ false) × (r h g ≡ false))
      go (inl a) (inl b) = absurd (omega arith)
      go (inl a) (inr b) = absurd (omega arith)
      go (inr a) (inl b) = absurd (omega arith)
      go (inr a) (inr b) = (a.0, (a.1, b.1))

  pub by_order : Order r → Order (first_by f r)
  by_order o = record {
    irrefl = λ g. by_even g g refl ∙ o.irrefl g;
    trans = λ g h i. by_trans g h i (o.trans g h i);
    total = λ g h p q. let e = by_same g h p q in o.total g h e.1.0 e.1.1;
  }

-- dictionary order is by the first number, and then by the rest
first : List ℕ → ℕ
first l = get_or l 0 0

rest : List ℕ → List ℕ → Bool
rest k l = before (drop 1 k) (drop 1 l)

irrefl : (k : List ℕ) → before k k ≡ false
unfolding before first_by first rest
irrefl [] = refl
irrefl (a ∷ k) = by_even first rest (a ∷ k) (a ∷ k) refl ∙ irrefl k

trans : (j k l : List ℕ) → before j k ≡ true → before k l ≡ true → before j l ≡ true
unfolding before first_by first rest
trans [] [] l p q = clash p refl
trans [] (b ∷ k) [] p q = clash q refl
trans [] (b ∷ k) (c ∷ l) p q = refl
trans (a ∷ j) [] l p q = clash p refl
trans (a ∷ j) (b ∷ k) [] p q = clash q refl
trans (a ∷ j) (b ∷ k) (c ∷ l) p q = by_trans first rest (a ∷ j) (b ∷ k) (c ∷ l) (trans j k l) p q

total : (k l : List ℕ) → before k l ≡ false → before l k ≡ false → k ≡ l
unfolding before first_by first rest
total [] [] p q = refl
total [] (b ∷ l) p q = clash refl p
total (a ∷ k) [] p q = clash refl q
total (a ∷ k) (b ∷ l) p q =
    let e = by_same first rest (a ∷ k) (b ∷ l) p q in
    let h : k ≡ l = total k l e.1.0 e.1.1 in
    cc

pub before_order : Order before
before_order = record { irrefl = irrefl; trans = trans; total = total }

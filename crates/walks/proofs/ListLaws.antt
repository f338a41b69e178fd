-- Laws of members of lists, and of lists gone through from the left.
-- Assumes nothing.
use mathlib.Core.Path.{◌≡◌, refl, subst}
use mathlib.Core.List.{List, [], ◌∷◌, ◌++◌}
use mathlib.Core.Logic.{◌⊎◌, inl, inr, ⊎_elim, ⊎_map}
use Rattle.walks.specs.Lists.{In, each, fold}

module _ {A : Type 0} (a : A) where
  pub in_left : (l k : List A) → In a l → In a (l ++ k)
  in_left [] k h = absurd h
  in_left (b ∷ l) k (inl e) = inl e
  in_left (b ∷ l) k (inr h) = inr (in_left l k h)

  pub in_right : (l k : List A) → In a k → In a (l ++ k)
  in_right [] k h = h
  in_right (b ∷ l) k h = inr (in_right l k h)

  pub in_append : (l k : List A) → In a (l ++ k) → In a l ⊎ In a k
  in_append [] k h = inr h
  in_append (b ∷ l) k (inl e) = inl (inl e)
  in_append (b ∷ l) k (inr h) = ⊎_map (λ p. inr p) (λ q. q) (in_append l k h)

module _ {A B : Type 0} (g : A → List B) (b : B) where
  pub in_each : (a : A) (l : List A) → In a l → In b (g a) → In b (each g l)
  unfolding each
  in_each a [] h k = absurd h
  in_each a (c ∷ l) (inl e) k = in_left b (g c) (each g l) (subst (λ (x : A). In b (g x)) e k)
  in_each a (c ∷ l) (inr h) k = in_right b (g c) (each g l) (in_each a l h k)

  pub of_each : (l : List A) → In b (each g l) → (a : A) × In a l × In b (g a)
  unfolding each
  of_each [] h = absurd h
  of_each (c ∷ l) h =
      ⊎_elim (λ p. (c, inl refl, p)) (λ p. let r = of_each l p in (r.0, inr r.1, r.2)) (in_append b (g c) (each g l) h)

pub fold_append : {A B : Type 0} (f : B → A → B) (b : B) (l k : List A) → fold f b (l ++ k) ≡ fold f (fold f b l) k
unfolding fold
fold_append f b [] k = refl
fold_append f b (a ∷ l) k = fold_append f (f b a) l k

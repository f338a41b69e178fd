-- Candidates with a member replaced, and which candidates are groups.
-- Assumes nothing.
use mathlib.Core.Path.{◌≡◌, refl, sym, ap}
use mathlib.Core.Bool.{Bool, true, false}
use mathlib.Core.List.{List, [], ◌∷◌, map}
use mathlib.Core.Option.{Option, none, some, none-ne-some}
use mathlib.Core.Logic.{◌⊎◌, inl, inr}
use Prim.Native.Nat.{ℕ, zero, suc, ◌+◌, ◌≤◌, ◌<◌}
use native.Mathlib.Decide.{dec_le}
use native.Mathlib.Omega.{arith}
use lib.Dec.{eqb}
use lib.ListN.{length, set, get_or-eq_default}
use borrow.Author.Tests.{eqb-true, eqb-false}
use Rattle.tree.specs.Tree.{Shape, Thing, place, level}
use Rattle.walks.specs.Lists.{In}
use Rattle.walks.proofs.OrderLaws.{clash}
use Rattle.closest.specs.Candidate.{number, member, topmost, levels, group_of, replaced}
use Rattle.closest.proofs.TopLaws.{all_places}

-- past the end stands a place, so a member of a higher level is within
pub inside : (s : Shape) (c : List Thing) (i : ℕ) → 0 < level s (member c i) → i < length c
inside s c i l = go (dec_le (length c) i)
  where
    go : Dec (length c ≤ i) → i < length c
    go (yes h) = absurd (omega (arith, ap (level s) (get_or-eq_default c (place 0) h)))
    go (no h) = omega arith

module _ (test : Thing → Bool) (c : List Thing) (i : ℕ) where
  -- d is c with member i replaced by one of l for which the test holds
  abbrev pub Replaced : List Thing → List Thing → Type 0
  Replaced l d = (y : Thing) × In y l × (test y ≡ true) × (d ≡ set c i y)

  pub of_replaced : (l d : List Thing) → In d (replaced test c i l) → Replaced l d
  unfolding replaced
  of_replaced [] d h = absurd h
  of_replaced (x ∷ l) d h = go (test x) refl h (of_replaced l d)
    where
      later : Replaced l d → Replaced (x ∷ l) d
      later r = (r.0, inr r.1, r.2, r.3)

      go : (u : Bool) → test x ≡ u → In d (elim u [ true ↦ set c i x ∷ replaced test c i l | false ↦ replaced test c i l ]) → (In d (replaced test c i l) → Replaced l d) → Replaced (x ∷ l) d
      go true e (inl p) more = (x, inl refl, e, p)
      go true e (inr p) more = later (more p)
      go false e p more = later (more p)

  pub in_replaced : (l : List Thing) (y : Thing) → In y l → test y ≡ true → In (set c i y) (replaced test c i l)
  unfolding replaced
  in_replaced [] y h e = absurd h
  in_replaced (x ∷ l) y h e = go (test x) refl h (λ r. in_replaced l y r e)
    where
      go : (u : Bool) → test x ≡ u → (y ≡ x) ⊎ In y l → (In y l → In (set c i y) (replaced test c i l)) → In (set c i y) (elim u [ true ↦ set c i x ∷ replaced test c i l | false ↦ replaced test c i l ])
      go true p (inl q) more = inl (ap (set c i) q)
      go true p (inr q) more = inr (more q)
      go false p (inl q) more = clash e (rw q p)
      go false p (inr q) more = more q

module _ (s : Shape) where
  -- one member replaced changes the sum of the levels by what it changes of its own
  pub levels_set : (c : List Thing) (i : ℕ) (y : Thing) → i < length c → levels s (set c i y) + level s (member c i) ≡ levels s c + level s y
  unfolding levels
  levels_set [] i y h = absurd (omega arith)
  levels_set (x ∷ c) zero y h = omega arith
  levels_set (x ∷ c) (suc i) y h = omega (arith, levels_set c i y (omega arith))

  -- a group has its candidate's numbers, and places only
  pub group_is : (c : List Thing) {g : List ℕ} → group_of s c ≡ some g → ((i : ℕ) → level s (member c i) ≡ 0) × (g ≡ map number c)
  unfolding group_of
  group_is c {g} e = go (eqb (level s (member c (topmost s c))) 0) refl e
    where
      go : (u : Bool) → eqb (level s (member c (topmost s c))) 0 ≡ u → (elim u [ true ↦ some (map number c) | false ↦ none ]) ≡ some g → ((i : ℕ) → level s (member c i) ≡ 0) × (g ≡ map number c)
      go true h p = (all_places s c (eqb-true _ _ h), cc)
      go false h p = absurd (none-ne-some g p)

  -- a candidate that is none has a topmost member that is no place
  pub open_is : (c : List Thing) → group_of s c ≡ none → 0 < level s (member c (topmost s c))
  unfolding group_of
  open_is c e = go (eqb (level s (member c (topmost s c))) 0) refl e
    where
      go : (u : Bool) → eqb (level s (member c (topmost s c))) 0 ≡ u → ◌≡◌ {A = Option (List ℕ)} (elim u [ true ↦ some (map number c) | false ↦ none ]) none → 0 < level s (member c (topmost s c))
      go true h p = absurd (none-ne-some (map number c) (sym p))
      go false h p = omega (arith, eqb-false (level s (member c (topmost s c))) 0 h)

-- Another representation of what is known takes the same steps.
-- Assumes nothing.
use mathlib.Core.Path.{◌≡◌, refl, ap, ◌∙◌}
use mathlib.Core.Bool.{Bool, true, false}
use mathlib.Core.List.{List, [], ◌∷◌, map, map-append}
use mathlib.Core.Option.{Option, none, some}
use mathlib.Core.Logic.{inl, inr}
use Prim.Native.Nat.{ℕ, zero, suc, ◌<◌}
use native.Mathlib.Decide.{dec_lt}
use native.Mathlib.Omega.{arith}
use lib.ListN.{length, take, length-map}
use Rattle.walks.specs.Lists.{In}
use Rattle.walks.specs.Walk.{Scene, Memory, final, chain, dropped, walk}
use Rattle.walks.specs.Allowance.{stand, stopped}
use Rattle.walks.proofs.WalkLaws.{Closed, final_append, at_drop, at_group, at_open}
use Rattle.walks.proofs.AllowanceLaws.{within, beyond}

module _ {K L : Type 0} (h : K → L) where
  map_final : (k : K) (l : List K) → final (h k) (map h l) ≡ h (final k l)
  unfolding final
  map_final k [] = refl
  map_final k (a ∷ l) = map_final a l

  map_take : (a : ℕ) (t : List K) → take a (map h t) ≡ map h (take a t)
  map_take zero t = refl
  map_take (suc a) [] = refl
  map_take (suc a) (k ∷ t) = ap (λ l. h k ∷ l) (map_take a t)

  -- so a walk stopped at an allowance stands where the other does
  pub map_stopped : (a : ℕ) (w : List K) (k : K) → let s = stopped a w k in stopped a (map h w) (h k) ≡ stand s.steps s.spent (h s.known)
  map_stopped a w k = go (dec_lt a (length w))
    where
      go : Dec (a < length w) → let s = stopped a w k in stopped a (map h w) (h k) ≡ stand s.steps s.spent (h s.known)
      go (yes l) = rw (beyond a w k l, beyond a (map h w) (h k) (omega (arith, length-map w h)), map_take a w, map_final k (take a w))
      go (no n) = rw (within a w k (omega arith), within a (map h w) (h k) (omega (arith, length-map w h)), map_final k w, length-map w h)

-- what m knows n knows in the words of h, as far as it is Ok and the groups are those of fine candidates
pub record Carries {C G K L : Type 0} (s : Scene C G) (m : Memory G K) (n : Memory G L) (h : K → L) (Fine : C → Type 0) (Ok : K → Type 0) : Type 0 where
  pub closed : Closed s Fine
  pub bounds : (k : K) → Ok k → n.bound (h k) ≡ m.bound k
  pub learns : (c : C) (k : K) (g : G) → Fine c → s.group c ≡ some g → Ok k → n.learn (h k) g ≡ h (m.learn k g)
  pub ok : (c : C) (k : K) (g : G) → Fine c → s.group c ≡ some g → Ok k → Ok (m.learn k g)

-- step for step, and what is known stays Ok
record Same {K L : Type 0} (h : K → L) (Ok : K → Type 0) (k : K) (a : List K) (b : List L) : Type 0 where
  steps : b ≡ map h a
  okay : Ok (final k a)

module _ {C G K L : Type 0} {s : Scene C G} {m : Memory G K} {n : Memory G L} {h : K → L} {Fine : C → Type 0} {Ok : K → Type 0} (w : Carries s m n h Fine Ok) (far : C → ℕ → Bool) where
  drops : (c : C) (k : K) → Ok k → dropped s n far c (h k) ≡ dropped s m far c k
  unfolding dropped
  drops c k o = rw (dropped, w.bounds k o)

  abbrev Steps : ℕ → Type 0
  Steps f = (c : C) (k : K) → Fine c → Ok k → Same h Ok k (walk s m far f c k) (walk s n far f c (h k))

  chain_same : (f : ℕ) → Steps f → (l : List C) (k : K) → ((c : C) → In c l → Fine c) → Ok k → Same h Ok k (chain (λ d e. walk s m far f d e) l k) (chain (λ d e. walk s n far f d e) l (h k))
  unfolding chain final
  chain_same f ih [] k fine o = record { steps = refl; okay = o }
  chain_same f ih (c ∷ l) k fine o =
      let p = ih c k (fine c (inl refl)) o in
      let q = chain_same f ih l (final k (walk s m far f c k)) (λ d i. fine d (inr i)) p.okay in
      record { steps = rw (p.steps, map_final h k, q.steps, map-append h); okay = rw (final_append k) q.okay }

  step_same : (f : ℕ) → Steps f → (c : C) (k : K) → Fine c → Ok k → (u : Bool) → dropped s m far c k ≡ u → (v : Option G) → s.group c ≡ v → Same h Ok k (walk s m far (suc f) c k) (walk s n far (suc f) c (h k))
  unfolding final
  step_same f ih c k fine o true e v p = rw (at_drop s m far f c k e, at_drop s n far f c (h k) (drops c k o ∙ e)) (record { steps = refl; okay = o })
  step_same f ih c k fine o false e (some g) p =
      rw (at_group s m far f c k e p, at_group s n far f c (h k) (drops c k o ∙ e) p, w.learns c k g fine p o) (record { steps = refl; okay = w.ok c k g fine p o })
  step_same f ih c k fine o false e none p =
      let r = chain_same f ih (s.below c) k (w.closed c fine p) o in
      rw (at_open s m far f c k e p, at_open s n far f c (h k) (drops c k o ∙ e) p) (record { steps = ap (λ l. h k ∷ l) r.steps; okay = r.okay })

  same : (f : ℕ) → Steps f
  unfolding walk final
  same zero c k fine o = record { steps = refl; okay = o }
  same (suc f) c k fine o = step_same f (same f) c k fine o (dropped s m far c k) refl (s.group c) refl

  -- so the walks go step for step
  pub carried : (f : ℕ) (c : C) (k : K) → Fine c → Ok k → walk s n far f c (h k) ≡ map h (walk s m far f c k)
  carried f c k fine o = (same f c k fine o).steps

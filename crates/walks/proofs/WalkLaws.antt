-- What a walk that drops safely ends with, and that enough fuel is as good as any.
-- Assumes nothing.
use mathlib.Core.Path.{◌≡◌, refl, sym, ap}
use mathlib.Core.Bool.{Bool, true, false, false≢true}
use mathlib.Core.List.{List, [], ◌∷◌, ◌++◌}
use mathlib.Core.Option.{Option, none, some}
use mathlib.Core.Logic.{inl, inr}
use Prim.Native.Nat.{ℕ, zero, suc, ◌<◌}
use native.Mathlib.Omega.{arith}
use Rattle.walks.specs.Lists.{In, each, fold}
use Rattle.walks.specs.Walk.{Scene, Memory, final, chain, dropped, walk, reach}
use Rattle.walks.proofs.ListLaws.{fold_append}

pub final_append : {K : Type 0} (k : K) (l m : List K) → final k (l ++ m) ≡ final (final k l) m
unfolding final
final_append k [] m = refl
final_append k (a ∷ l) m = final_append a l m

-- ---- the three ways of a step

module _ {C G K : Type 0} (s : Scene C G) (m : Memory G K) (far : C → ℕ → Bool) (fuel : ℕ) (c : C) (k : K) where
  pub at_drop : dropped s m far c k ≡ true → walk s m far (suc fuel) c k ≡ k ∷ []
  unfolding walk
  at_drop e = rw (walk, e)

  pub at_group : {g : G} → dropped s m far c k ≡ false → s.group c ≡ some g → walk s m far (suc fuel) c k ≡ m.learn k g ∷ []
  unfolding walk
  at_group e h = rw (walk, e, h)

  pub at_open : dropped s m far c k ≡ false → s.group c ≡ none → walk s m far (suc fuel) c k ≡ k ∷ chain (λ d e. walk s m far fuel d e) (s.below c) k
  unfolding walk
  at_open e h = rw (walk, e, h)

  -- a drop has its bound
  dropped_at : dropped s m far c k ≡ true → (d : ℕ) × (m.bound k ≡ some d) × (far c d ≡ true)
  unfolding dropped
  dropped_at h = go (m.bound k) refl h
    where
      go : (b : Option ℕ) → m.bound k ≡ b → (elim b [ none ↦ false | some d ↦ far c d ]) ≡ true → (d : ℕ) × (m.bound k ≡ some d) × (far c d ≡ true)
      go none e p = absurd (false≢true p)
      go (some d) e p = (d, e, p)

module _ {C G : Type 0} (s : Scene C G) (fuel : ℕ) (c : C) where
  pub reach_group : {g : G} → s.group c ≡ some g → reach s (suc fuel) c ≡ g ∷ []
  unfolding reach
  reach_group e = rw (reach, e)

  pub reach_open : s.group c ≡ none → reach s (suc fuel) c ≡ each (λ d. reach s fuel d) (s.below c)
  unfolding reach
  reach_open e = rw (reach, e)

-- ---- exactness

-- fine candidates have fine ones right below
abbrev pub Closed : {C G : Type 0} → Scene C G → (C → Type 0) → Type 0
Closed {C} s Fine = (c : C) → Fine c → s.group c ≡ none → (d : C) → In d (s.below c) → Fine d

-- a group whose square is above the bound teaches nothing; Ok is what holds of all that is ever known
pub record Lawful {G K : Type 0} (m : Memory G K) (square : G → ℕ) (Ok : K → Type 0) : Type 0 where
  pub ok : (k : K) (g : G) → Ok k → Ok (m.learn k g)
  pub keeps : (k : K) (g : G) (d : ℕ) → Ok k → m.bound k ≡ some d → d < square g → m.learn k g ≡ k

-- a drop is safe: every group below has a square strictly above the bound
abbrev pub Safe : {C G : Type 0} → Scene C G → (G → ℕ) → (C → Type 0) → (C → ℕ → Bool) → Type 0
Safe {C} {G} s square Fine far = (fuel : ℕ) (c : C) (d : ℕ) → Fine c → far c d ≡ true → (g : G) → In g (reach s fuel c) → d < square g

-- a walk that drops safely, from fine candidates and with what is Ok to know
pub record Drops {C G K : Type 0} (s : Scene C G) (m : Memory G K) (square : G → ℕ) (Fine : C → Type 0) (Ok : K → Type 0) (far : C → ℕ → Bool) : Type 0 where
  pub law : Lawful m square Ok
  pub closed : Closed s Fine
  pub safe : Safe s square Fine far

module _ {C G K : Type 0} {s : Scene C G} {m : Memory G K} {square : G → ℕ} {Fine : C → Type 0} {Ok : K → Type 0} {far : C → ℕ → Bool} (w : Drops s m square Fine Ok far) where
  ok_fold : (k : K) (l : List G) → Ok k → Ok (fold m.learn k l)
  unfolding fold
  ok_fold k [] o = o
  ok_fold k (g ∷ l) o = ok_fold (m.learn k g) l (w.law.ok k g o)

  -- groups above the bound teach nothing
  fold_keeps : (k : K) (d : ℕ) (l : List G) → Ok k → m.bound k ≡ some d → ((g : G) → In g l → d < square g) → fold m.learn k l ≡ k
  unfolding fold
  fold_keeps k d [] o b h = refl
  fold_keeps k d (g ∷ l) o b h = rw (w.law.keeps k g d o b (h g (inl refl))) (fold_keeps k d l o b (λ a i. h a (inr i)))

  abbrev Exact : ℕ → Type 0
  Exact fuel = (c : C) (k : K) → Fine c → Ok k → final k (walk s m far fuel c k) ≡ fold m.learn k (reach s fuel c)

  chain_exact : (fuel : ℕ) → Exact fuel → (l : List C) (k : K) → ((c : C) → In c l → Fine c) → Ok k → final k (chain (λ d e. walk s m far fuel d e) l k) ≡ fold m.learn k (each (λ d. reach s fuel d) l)
  unfolding final chain each fold
  chain_exact fuel ih [] k h o = refl
  chain_exact fuel ih (c ∷ l) k h o =
      rw (final_append, ih c k (h c (inl refl)) o, fold_append) (chain_exact fuel ih l _ (λ d i. h d (inr i)) (ok_fold k (reach s fuel c) o))

  step_exact : (fuel : ℕ) → Exact fuel → (c : C) (k : K) → Fine c → Ok k → (u : Bool) → dropped s m far c k ≡ u → (v : Option G) → s.group c ≡ v → final k (walk s m far (suc fuel) c k) ≡ fold m.learn k (reach s (suc fuel) c)
  unfolding final fold
  step_exact fuel ih c k h o true e v p =
      let d = dropped_at s m far fuel c k e in
      rw (at_drop s m far fuel c k e) (sym (fold_keeps k d.0 (reach s (suc fuel) c) o d.1 (w.safe (suc fuel) c d.0 h d.2)))
  step_exact fuel ih c k h o false e (some g) p = rw (at_group s m far fuel c k e p, reach_group s fuel c p)
  step_exact fuel ih c k h o false e none p = rw (at_open s m far fuel c k e p, reach_open s fuel c p) (chain_exact fuel ih (s.below c) k (w.closed c h p) o)

  -- what is known at the end of the walk: what all the groups below teach, taken in order
  pub exact : (fuel : ℕ) (c : C) (k : K) → Fine c → Ok k → final k (walk s m far fuel c k) ≡ fold m.learn k (reach s fuel c)
  unfolding final walk reach fold
  exact zero c k h o = refl
  exact (suc fuel) c k h o = step_exact fuel (exact fuel) c k h o (dropped s m far c k) refl (s.group c) refl

-- ---- fuel

chain_same : {C K : Type 0} (g h : C → K → List K) (l : List C) (k : K) → ((c : C) (k : K) → In c l → g c k ≡ h c k) → chain g l k ≡ chain h l k
unfolding chain
chain_same g h [] k e = refl
chain_same g h (c ∷ l) k e = rw (e c k (inl refl)) (ap (λ t. h c k ++ t) (chain_same g h l (final k (h c k)) (λ d k i. e d k (inr i))))

-- where a measure falls from each candidate to those right below, any fuel above it gives the same walk
module _ {C G K : Type 0} (s : Scene C G) (m : Memory G K) (far : C → ℕ → Bool) {Fine : C → Type 0} (closed : Closed s Fine) (μ : C → ℕ)
    (falls : (c : C) → Fine c → s.group c ≡ none → (d : C) → In d (s.below c) → μ d < μ c) where
  step_same : (f g : ℕ) (c : C) (k : K) → (s.group c ≡ none → (d : C) (k : K) → In d (s.below c) → walk s m far f d k ≡ walk s m far g d k) →
      (u : Bool) → dropped s m far c k ≡ u → (v : Option G) → s.group c ≡ v → walk s m far (suc f) c k ≡ walk s m far (suc g) c k
  step_same f g c k ih true e v p = rw (at_drop s m far f c k e, at_drop s m far g c k e)
  step_same f g c k ih false e (some a) p = rw (at_group s m far f c k e p, at_group s m far g c k e p)
  step_same f g c k ih false e none p =
      rw (at_open s m far f c k e p, at_open s m far g c k e p) (ap (λ t. k ∷ t) (chain_same _ _ (s.below c) k (ih p)))

  pub enough : (f g : ℕ) (c : C) (k : K) → Fine c → μ c < f → μ c < g → walk s m far f c k ≡ walk s m far g c k
  enough zero g c k h p q = absurd (omega arith)
  enough (suc f) zero c k h p q = absurd (omega arith)
  enough (suc f) (suc g) c k h p q =
      step_same f g c k (λ e d k i. let l = falls c h e d i in enough f g d k (closed c h e d i) (omega arith) (omega arith)) (dropped s m far c k) refl (s.group c) refl

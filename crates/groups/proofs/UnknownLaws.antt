-- Where no group is known in the end, the best is that of the start, with what stands beside its flag.
-- Assumes nothing.
use mathlib.Core.Path.{◌≡◌, refl, sym, ap, ◌∙◌}
use mathlib.Core.Bool.{Bool, true, false, true≢false}
use mathlib.Core.List.{List, [], ◌∷◌, ◌++◌}
use mathlib.Core.Option.{Option, none, some}
use Prim.Native.Nat.{ℕ, zero, suc}
use lib.Dec.{ltb}
use lib.ListN.{replicate}
use Rattle.table.specs.Table.{Table}
use Rattle.tree.specs.Tree.{Tree}
use Rattle.walks.specs.Order.{before}
use Rattle.walks.specs.Walk.{Scene, Memory, final, chain, dropped, walk}
use Rattle.walks.specs.Allowance.{Stand, step, advance}
use Rattle.walks.proofs.WalkLaws.{at_drop, at_group, at_open}
use Rattle.members.specs.declared.Best.{Best}
use Rattle.members.specs.Best.{best_at, improved}
use Rattle.groups.specs.Members.{Member}
use Rattle.groups.specs.Leads.{leads}
use Rattle.groups.specs.Opening.{Led}

-- ---- what is so of what was known first and of all that is learnt is so of all that is known

module _ {K : Type 0} (P : K → Type 0) where
  abbrev All : List K → Type 0
  All [] = Unit
  All (k ∷ l) = P k × All l

  all_final : (k : K) (l : List K) → P k → All l → P (final k l)
  unfolding final
  all_final k [] p h = p
  all_final k (e ∷ l) p h = all_final e l h.0 h.1

  all_append : (l m : List K) → All l → All m → All (l ++ m)
  all_append [] m h i = i
  all_append (k ∷ l) m h i = (h.0, all_append l m h.1 i)

  all_chain : {C : Type 0} (g : C → K → List K) → ((c : C) (k : K) → P k → All (g c k)) → (cs : List C) (k : K) → P k → All (chain g cs k)
  unfolding chain
  all_chain g h [] k p = tt
  all_chain g h (c ∷ cs) k p = all_append (g c k) _ (h c k p) (all_chain g h cs _ (all_final k (g c k) p (h c k p)))

  all_step : (a : ℕ) (k : K) (w : Stand K) → P k → P w.known → P (step a k w).known
  unfolding step
  all_step a k w p q = go w.spent refl (ltb w.steps a) refl
    where
      go : (u : Bool) → w.spent ≡ u → (v : Bool) → ltb w.steps a ≡ v → P (step a k w).known
      go true e v f = rw (step, e) q
      go false e true f = rw (step, e, f) p
      go false e false f = rw (step, e, f) q

  all_advance : (a : ℕ) (l : List K) (w : Stand K) → All l → P w.known → P (advance a l w).known
  unfolding advance
  all_advance a [] w h p = p
  all_advance a (k ∷ l) w h p = all_advance a l (step a k w) h.1 (all_step a k w h.0 p)

  module _ {C G : Type 0} (s : Scene C G) (m : Memory G K) (far : C → ℕ → Bool) (learns : (k : K) (g : G) → P k → P (m.learn k g)) where
    all_more : (f : ℕ) → ((c : C) (k : K) → P k → All (walk s m far f c k)) → (c : C) (k : K) → P k →
        (u : Bool) → dropped s m far c k ≡ u → (v : Option G) → s.group c ≡ v → All (walk s m far (suc f) c k)
    all_more f ih c k p true e v h = rw (at_drop s m far f c k e) (p, tt)
    all_more f ih c k p false e (some g) h = rw (at_group s m far f c k e h) (learns k g p, tt)
    all_more f ih c k p false e none h = rw (at_open s m far f c k e h) (p, all_chain (λ d e. walk s m far f d e) ih (s.below c) k p)

    all_walk : (f : ℕ) (c : C) (k : K) → P k → All (walk s m far f c k)
    unfolding walk
    all_walk zero c k p = tt
    all_walk (suc f) c k p = all_more f (all_walk f) c k p (dropped s m far c k) refl (s.group c) refl

-- ---- the best known

-- once a group is offered, one is known
pub offered : (g : List ℕ) (d : ℕ) (b : Best) → (improved g d b).known ≡ true
unfolding improved
offered g d b = go b.known refl (ltb d b.squared) refl (ltb b.squared d) refl (before g b.places) refl
  where
    go : (u : Bool) → b.known ≡ u → (v : Bool) → ltb d b.squared ≡ v → (w : Bool) → ltb b.squared d ≡ w → (x : Bool) → before g b.places ≡ x → (improved g d b).known ≡ true
    go false e v f w h x i = rw (improved, e)
    go true e true f w h x i = rw (improved, e, f)
    go true e false f true h x i = rw (improved, e, f, h) e
    go true e false f false h true i = rw (improved, e, f, h, i)
    go true e false f false h false i = rw (improved, e, f, h, i) e

-- a best without a group has 0 and zeros, as it has where a walk begins
abbrev pub Blank : Best → Type 0
Blank b = b.known ≡ false → b ≡ best_at false 0 (replicate 8 0)

module _ {t : Table} {tree : Tree} {kinds : List ℕ} {allowance m : ℕ} {cand : List Member} {top : ℕ} {from to : Stand Best} (l : Led t tree kinds allowance m cand top from to) where
  -- no group was learnt, and all that was known is kept
  pub unlearnt : to.known.known ≡ false → to.known ≡ from.known
  unfolding leads
  unlearnt n =
      let P : Best → Type 0 = λ b. b.known ≡ false → b ≡ from.known in
      let done : P to.known =
      rw (l.led, leads)
      (all_advance P _ _ from (all_chain P _ (λ c k p. all_walk P _ _ _ (λ b g q e. absurd (true≢false (sym (offered _ _ b) ∙ e))) _ c k p) _ from.known (λ e. refl)) (λ e. refl)) in
      done n

  -- so 0 and zeros stay
  pub stays_blank : Blank from.known → Blank to.known
  stays_blank h n = unlearnt n ∙ h (sym (ap (λ (b : Best). b.known) (unlearnt n)) ∙ n)

-- What is left of a walk, candidate by candidate.
-- Assumes nothing.
use mathlib.Core.Path.{◌≡◌, refl, sym, ap, ◌∙◌}
use mathlib.Core.Bool.{Bool, true, false, true≢false}
use mathlib.Core.List.{List, [], ◌∷◌, ◌++◌}
use Prim.Native.Nat.{ℕ, ◌+◌}
use lib.Dec.{ltb}
use Rattle.walks.specs.Allowance.{Stand, stand, step, advance}
use Rattle.walks.specs.Walk.{final, chain}
use Rattle.groups.specs.Leads.{ahead}

module _ {K : Type 0} (a : ℕ) where
  advance_append : (l k : List K) (w : Stand K) → advance a (l ++ k) w ≡ advance a k (advance a l w)
  unfolding advance
  advance_append [] k w = refl
  advance_append (e ∷ l) k w = advance_append l k (step a e w)

  -- once spent, nothing changes
  step_stays : (k : K) (w : Stand K) → w.spent ≡ true → step a k w ≡ w
  unfolding step
  step_stays k w e = ap (λ (u : Bool). elim u as (λ _. Stand K) [ true ↦ w | false ↦ elim (ltb w.steps a) [ true ↦ stand (w.steps + 1) false k | false ↦ stand w.steps true w.known ] ]) e

  pub stays : (l : List K) (w : Stand K) → w.spent ≡ true → advance a l w ≡ w
  unfolding advance
  stays [] w e = refl
  stays (k ∷ l) w e = ap (advance a l) (step_stays k w e) ∙ stays l w e

  -- while not spent, the last of what was met is known
  pub step_known : (k : K) (w : Stand K) → (step a k w).spent ≡ false → (step a k w).known ≡ k
  unfolding step
  step_known k w e = go w.spent refl (ltb w.steps a) refl
    where
      go : (u : Bool) → w.spent ≡ u → (v : Bool) → ltb w.steps a ≡ v → (step a k w).known ≡ k
      go true p v q = absurd (true≢false (sym p ∙ (rw (step, p) at e)))
      go false p true q = rw (step, p, q)
      go false p false q = absurd (true≢false (rw (step, p, q) at e))

  unspent : (l : List K) (w : Stand K) → (advance a l w).spent ≡ false → (advance a l w).known ≡ final w.known l
  unfolding advance final
  unspent [] w e = refl
  unspent (k ∷ l) w e = unspent l (step a k w) e ∙ ap (λ (x : K). final x l) (step_known k w (go (step a k w).spent refl))
    where
      go : (u : Bool) → (step a k w).spent ≡ u → u ≡ false
      go true p = sym p ∙ sym (ap (λ (z : Stand K). z.spent) (stays l (step a k w) p)) ∙ e
      go false p = refl

module _ {C K : Type 0} (a : ℕ) (g : C → K → List K) where
  pub ahead_none : (w : Stand K) → ahead a g [] w ≡ w
  unfolding chain advance
  ahead_none w = refl

  -- one candidate is taken, and the rest from where that leaves the walk
  pub ahead_more : (c : C) (cs : List C) (w : Stand K) → ahead a g (c ∷ cs) w ≡ ahead a g cs (advance a (g c w.known) w)
  unfolding chain
  ahead_more c cs w = advance_append a (g c w.known) _ w ∙ go (advance a (g c w.known) w).spent refl
    where
      next : Stand K
      next = advance a (g c w.known) w

      go : (u : Bool) → next.spent ≡ u → advance a (chain g cs (final w.known (g c w.known))) next ≡ advance a (chain g cs next.known) next
      go true e = stays a _ next e ∙ sym (stays a _ next e)
      go false e = ap (λ (k : K). advance a (chain g cs k) next) (sym (unspent a (g c w.known) w e))

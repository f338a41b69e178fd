-- Where a walk stands when it stops, all at once and step by step.
-- Assumes nothing.
use mathlib.Core.Path.{◌≡◌, refl, ap, sym, subst, ◌∙◌}
use mathlib.Core.Bool.{true, false, false≢true}
use mathlib.Core.List.{List, [], ◌∷◌}
use mathlib.Core.Logic.{◌↔◌}
use Prim.Native.Nat.{ℕ, zero, suc, ◌+◌, ◌≤◌, ◌<◌}
use native.Mathlib.Nat.{zero-add}
use native.Mathlib.Omega.{arith}
use native.Mathlib.Decide.{dec_lt}
use lib.ListN.{length, get_or, take}
use borrow.Author.Tests.{lt-ltb, le-ltb}
use Rattle.walks.specs.Walk.{final}
use Rattle.walks.specs.Allowance.{Stand, stand, stopped, step, advance}

module _ {K : Type 0} where
  -- within the allowance every step is taken, and beyond it as many as the allowance has
  pub within : (a : ℕ) (w : List K) (k : K) → length w ≤ a → stopped a w k ≡ stand (length w) false (final k w)
  unfolding stopped
  within a w k h = rw (stopped, le-ltb a (length w) h)

  pub beyond : (a : ℕ) (w : List K) (k : K) → a < length w → stopped a w k ≡ stand a true (final k (take a w))
  unfolding stopped
  beyond a w k h = rw (stopped, lt-ltb a (length w) h)

  -- spent exactly where the walk is longer than the allowance
  pub spent_is : (a : ℕ) (w : List K) (k : K) → ((stopped a w k).spent ≡ true) ↔ (a < length w)
  spent_is a w k = (λ h. go h (dec_lt a (length w)), λ h. rw (beyond a w k h))
    where
      go : (stopped a w k).spent ≡ true → Dec (a < length w) → a < length w
      go h (yes l) = l
      go h (no n) = absurd (false≢true (rw (within a w k (omega arith)) at h))

  -- what is known after a + 1 steps is element a of the walk
  pub after : (w : List K) (a : ℕ) (k d : K) → a < length w → final k (take (suc a) w) ≡ get_or w a d
  unfolding final
  after [] a k d h = absurd (omega arith)
  after (e ∷ w) zero k d h = refl
  after (e ∷ w) (suc a) k d h = after w a e d (omega arith)

  -- ---- step by step

  -- n steps later
  abbrev later : ℕ → Stand K → Stand K
  later n s = stand (n + s.steps) s.spent s.known

  one_more : (a n : ℕ) (e : K) (w : List K) (k : K) → later (n + 1) (stopped a w e) ≡ later n (stopped (suc a) (e ∷ w) k)
  unfolding final
  one_more a n e w k = go (dec_lt a (length w))
    where
      go : Dec (a < length w) → later (n + 1) (stopped a w e) ≡ later n (stopped (suc a) (e ∷ w) k)
      go (yes l) = rw (beyond a w e l, beyond (suc a) (e ∷ w) k (omega arith)) (ap (λ i. stand i true (final e (take a w))) (omega arith))
      go (no h) = rw (within a w e (omega arith), within (suc a) (e ∷ w) k (omega arith)) (ap (λ i. stand i false (final e w)) (omega arith))

  stays : (a : ℕ) (w : List K) (n : ℕ) (k : K) → advance a w (stand n true k) ≡ stand n true k
  unfolding advance step
  stays a [] n k = refl
  stays a (e ∷ w) n k = stays a w n k

  -- after n steps, with a more in the allowance
  from : (a n : ℕ) (w : List K) (k : K) → advance (n + a) w (stand n false k) ≡ later n (stopped a w k)
  unfolding advance step final
  from a n [] k = rw (within a [] k (omega arith)) (ap (λ i. stand i false k) (omega arith))
  from zero n (e ∷ w) k =
      rw (beyond 0 (e ∷ w) k (omega arith), step, le-ltb n (n + 0) (omega arith), stays (n + 0) w n k) (ap (λ i. stand i true k) (omega arith))
  from (suc a) n (e ∷ w) k =
      let same : n + suc a ≡ n + 1 + a = omega arith in
      rw (step, lt-ltb n (n + suc a) (omega arith))
      (subst (λ (b : ℕ). advance b w (stand (n + 1) false e) ≡ later n (stopped (suc a) (e ∷ w) k)) (sym same) (from a (n + 1) w e ∙ one_more a n e w k))

  -- step by step is all at once
  pub advances : (a : ℕ) (w : List K) (k : K) → advance a w (stand 0 false k) ≡ stopped a w k
  advances a w k = simp zero-add at (from a 0 w k)

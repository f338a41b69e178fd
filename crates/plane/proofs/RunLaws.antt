-- Laws of a run's join, for any operation: boxes, kit words, one side of a box.
-- Assumes nothing.
use mathlib.Core.Path.{◌≡◌, ap, ap₂, ◌∙◌}
use Prim.Native.Nat.{ℕ, zero, suc, ◌+◌, ◌-◌, ◌≤◌, ◌<◌}
use native.Mathlib.Nat.{add-suc, add-zero}
use native.Mathlib.Numerals.{add-one}
use native.Mathlib.Omega.{arith}
use Rattle.plane.specs.Plane.{join_boxes}
use Rattle.plane.specs.Run.{joined}
use Rattle.plane.specs.declared.Box.{Box}
use Rattle.plane.proofs.BoxLaws.{box_join_assoc}

-- a run is the join of its two parts, wherever it is divided
module _ {A : Type 0} (op : A → A → A) (assoc : (a b c : A) → op (op a b) c ≡ op a (op b c)) (f : ℕ → A) (from k : ℕ) where
  pub joined_parts : (l : ℕ) → joined op f from (k + suc l) ≡ op (joined op f from k) (joined op f (from + suc k) l)
  unfolding joined
  joined_parts zero = ap (joined op f from) (add-suc k 0 ∙ ap suc (add-zero k))
  joined_parts (suc l) =
      let e : from + suc (k + suc l) ≡ from + suc k + suc l = omega arith in
      ap (joined op f from) (add-suc k (suc l)) ∙ ap₂ op (joined_parts l) (ap f e) ∙ assoc _ _ _

pub box_of_parts : (f : ℕ → Box) (from k l : ℕ) → joined join_boxes f from (k + suc l) ≡ join_boxes (joined join_boxes f from k) (joined join_boxes f (from + suc k) l)
box_of_parts = joined_parts join_boxes box_join_assoc

-- it depends on nothing outside the run
pub joined_same : {A : Type 0} (op : A → A → A) (f g : ℕ → A) (from k : ℕ) → ((i : ℕ) → from ≤ i → i ≤ from + k → f i ≡ g i) → joined op f from k ≡ joined op g from k
unfolding joined
joined_same op f g from zero h = h from (omega arith) (omega arith)
joined_same op f g from (suc k) h = ap₂ op (joined_same op f g from k (λ i a b. h i a (omega arith))) (h (from + suc k) (omega arith) (omega arith))

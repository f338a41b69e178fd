-- The squared diameter of a group is the largest squared distance of any two of its members.
-- Assumes nothing.
use mathlib.Core.Path.{◌≡◌, ap₂}
use mathlib.Core.List.{List, [], ◌∷◌, map}
use Prim.Native.Nat.{ℕ, zero, suc, ◌+◌, ◌≤◌, ◌<◌}
use native.Mathlib.Omega.{arith}
use lib.IntN.{ℤ, pos}
use lib.ListN.{length, get_or}
use Rattle.plane.specs.Plane.{gap, span, square, apart}
use Rattle.plane.proofs.WholeLaws.{rise_is}
use Rattle.plane.proofs.BoxLaws.{apart_comm, apart_point}
use Rattle.table.specs.Table.{Table, box_of}
use Rattle.closest.specs.Group.{farthest, spread, diameter}
use Rattle.promises.specs.Answers.{between}

-- a place is 0 from itself
gap_self : (a : ℤ) → gap (span a a) (span a a) ≡ 0
gap_self a = omega (arith, rise_is a a)

module _ (t : Table) where
  -- the squared distance of two places is that of their boxes
  abbrev far : ℕ → ℕ → ℕ
  far p q = apart (box_of t p) (box_of t q)

  far_is : (p q : ℕ) → far p q ≡ between t p q
  far_is p q = apart_point (get_or t.x p (pos 0)) (get_or t.y p (pos 0)) (get_or t.x q (pos 0)) (get_or t.y q (pos 0))

  far_self : (p : ℕ) → far p p ≡ 0
  far_self p = ap₂ (λ (m n : ℕ). square m + square n) (gap_self (get_or t.x p (pos 0))) (gap_self (get_or t.y p (pos 0)))

  farthest_above : (p : ℕ) (g : List ℕ) (j : ℕ) → j < length g → far p (get_or g j 0) ≤ farthest (box_of t p) (map (box_of t) g)
  unfolding farthest
  farthest_above p [] j l = absurd (omega arith)
  farthest_above p (q ∷ g) zero l = omega arith
  farthest_above p (q ∷ g) (suc j) l = omega (arith, farthest_above p g j (omega arith))

  spread_above : (g : List ℕ) (i j : ℕ) → i < length g → j < length g → far (get_or g i 0) (get_or g j 0) ≤ spread (map (box_of t) g)
  unfolding spread
  spread_above [] i j l k = absurd (omega arith)
  spread_above (q ∷ g) zero zero l k = omega (arith, far_self q)
  spread_above (q ∷ g) zero (suc j) l k = omega (arith, farthest_above q g j (omega arith))
  spread_above (q ∷ g) (suc i) zero l k = omega (arith, farthest_above q g i (omega arith), apart_comm (box_of t (get_or g i 0)) (box_of t q))
  spread_above (q ∷ g) (suc i) (suc j) l k = omega (arith, spread_above g i j (omega arith) (omega arith))

  -- no two members are farther apart
  pub diameter_above : (g : List ℕ) (i j : ℕ) → i < length g → j < length g → between t (get_or g i 0) (get_or g j 0) ≤ diameter t g
  unfolding diameter
  diameter_above g i j l k = omega (arith, spread_above g i j l k, far_is (get_or g i 0) (get_or g j 0))

  farthest_least : (d p : ℕ) (g : List ℕ) → ((j : ℕ) → j < length g → far p (get_or g j 0) ≤ d) → farthest (box_of t p) (map (box_of t) g) ≤ d
  unfolding farthest
  farthest_least d p [] h = omega arith
  farthest_least d p (q ∷ g) h = omega (arith, h 0 (omega arith), farthest_least d p g (λ j l. h (suc j) (omega arith)))

  spread_least : (d : ℕ) (g : List ℕ) → ((i j : ℕ) → i < length g → j < length g → far (get_or g i 0) (get_or g j 0) ≤ d) → spread (map (box_of t) g) ≤ d
  unfolding spread
  spread_least d [] h = omega arith
  spread_least d (q ∷ g) h = omega (arith, farthest_least d q g (λ j l. h 0 (suc j) (omega arith) (omega arith)), spread_least d g (λ i j l k. h (suc i) (suc j) (omega arith) (omega arith)))

  -- and no less number has that
  pub diameter_least : (d : ℕ) (g : List ℕ) → ((i j : ℕ) → i < length g → j < length g → between t (get_or g i 0) (get_or g j 0) ≤ d) → diameter t g ≤ d
  unfolding diameter
  diameter_least d g h = spread_least d g (λ i j l k. omega (arith, h i j l k, far_is (get_or g i 0) (get_or g j 0)))

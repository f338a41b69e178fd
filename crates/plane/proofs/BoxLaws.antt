-- Laws of boxes, each from the law of spans on both axes.
-- Assumes nothing.
use mathlib.Core.Path.{◌≡◌, ap₂, subst, sym, ◌∙◌}
use mathlib.Core.Bool.{false}
use Prim.Native.Nat.{ℕ, ◌+◌, ◌≤◌}
use native.Mathlib.Nat.{le_trans}
use native.Mathlib.Omega.{arith}
use lib.IntN.{ℤ, ◌-ℤ◌}
use Rattle.plane.specs.Plane.{outside, squared_of, point, box, square, apart, join_boxes, Within, Ranged, Proper}
use Rattle.plane.specs.declared.Box.{Box}
use Rattle.plane.proofs.WholeLaws.{le_make, square_le, squares_add}
use Rattle.plane.proofs.GapLaws.{gap_comm, gap_within, gap_point, gap_proper}
use Rattle.plane.proofs.JoinLaws.{join_comm, join_self, join_assoc, first_in_join, second_in_join, join_tightest, inside_self, inside_trans}

squares_le : (a b c d : ℕ) → a ≤ c → b ≤ d → square a + square b ≤ square c + square d
squares_le a b c d h k = omega (arith, square_le a c h, square_le b d k)

pub apart_comm : (b c : Box) → apart b c ≡ apart c b
apart_comm b c = ap₂ (λ (m n : ℕ). square m + square n) (gap_comm b.x c.x) (gap_comm b.y c.y)

-- boxes are no farther apart than what they hold
pub apart_within : (b c b' c' : Box) → Within b' b → Within c' c → apart b c ≤ apart b' c'
apart_within b c b' c' h k =
    squares_le _ _ _ _ (gap_within b.x c.x b'.x c'.x h.x k.x) (gap_within b.y c.y b'.y c'.y h.y k.y)

-- two points are their squared distance apart
pub apart_point : (ax ay bx by : ℤ) → apart (point ax ay) (point bx by) ≡ squared_of ax ay bx by
unfolding squared_of
apart_point ax ay bx by = ap₂ (λ (m n : ℕ). square m + square n) (gap_point ax bx) (gap_point ay by) ∙ sym (squares_add (ax -ℤ bx) (ay -ℤ by))

-- the largest squared distance that there is
pub apart_le : (b c : Box) → Proper b → Proper c → Ranged b → Ranged c → apart b c ≤ 8000000000000
apart_le b c p q r w =
    le_trans
    (squares_le _ _ 2000000 2000000 (gap_proper b.x c.x p.x q.x r.x w.x) (gap_proper b.y c.y p.y q.y r.y w.y))
    (omega arith)

-- so also of two points
pub point_proper : (x y : ℤ) → Proper (point x y)
point_proper x y = record { x = le_make (omega arith); y = le_make (omega arith) }

pub point_ranged : {x y : ℤ} → outside x ≡ false → outside y ≡ false → Ranged (point x y)
point_ranged h k = record { x = record { lo = h; hi = h }; y = record { lo = k; hi = k } }

pub squared_le : (ax ay bx by : ℤ) → Ranged (point ax ay) → Ranged (point bx by) → squared_of ax ay bx by ≤ 8000000000000
squared_le ax ay bx by r w = subst (λ (n : ℕ). n ≤ 8000000000000) (apart_point ax ay bx by) (apart_le _ _ (point_proper ax ay) (point_proper bx by) r w)

pub box_join_comm : (b c : Box) → join_boxes b c ≡ join_boxes c b
box_join_comm b c = ap₂ box (join_comm b.x c.x) (join_comm b.y c.y)

pub box_join_self : (b : Box) → join_boxes b b ≡ b
box_join_self b = ap₂ box (join_self b.x) (join_self b.y)

pub box_join_assoc : (b c d : Box) → join_boxes (join_boxes b c) d ≡ join_boxes b (join_boxes c d)
box_join_assoc b c d = ap₂ box (join_assoc b.x c.x d.x) (join_assoc b.y c.y d.y)

-- both lie in the join, and it lies in whatever both lie in
pub box_first_in_join : (b c : Box) → Within b (join_boxes b c)
box_first_in_join b c = record { x = first_in_join b.x c.x; y = first_in_join b.y c.y }

pub box_second_in_join : (b c : Box) → Within c (join_boxes b c)
box_second_in_join b c = record { x = second_in_join b.x c.x; y = second_in_join b.y c.y }

pub box_join_tightest : (b c d : Box) → Within b d → Within c d → Within (join_boxes b c) d
box_join_tightest b c d h k = record { x = join_tightest b.x c.x d.x h.x k.x; y = join_tightest b.y c.y d.y h.y k.y }

-- lying within: each box in itself, and one in another through a third
pub within_self : (b : Box) → Within b b
within_self b = record { x = inside_self b.x; y = inside_self b.y }

pub within_trans : {b c d : Box} → Within b c → Within c d → Within b d
within_trans h k = record { x = inside_trans h.x k.x; y = inside_trans h.y k.y }

-- Coordinates, points, spans and boxes: how far apart they are, and the tightest around two.
-- Assumes nothing.
use Rattle.std.specs.Prelude.{◌≡◌, Bool, false, cond, ◌||◌, ℕ, ◌+◌, ◌*◌, ℤ, pos, negsuc, nat_abs, ◌+ℤ◌, ◌-ℤ◌, ◌*ℤ◌, ◌≤ℤ◌, Result, Ok, Err}
use Rattle.std.specs.Int.Signed.{lt_z}
use Rattle.plane.specs.declared.Span.{Span}
use Rattle.plane.specs.declared.Box.{Box}
use Rattle.verdict.specs.Numbers.{number}
use Rattle.verdict.specs.declared.Refusal.{Refusal}

-- a coordinate is out of range: below -1,000,000 or above 1,000,000
unfoldable pub outside : ℤ → Bool
outside z = lt_z z (negsuc 999999) || lt_z (pos 1000000) z

-- the squared distance of two points: the sum of the squares of the signed differences
unfoldable pub squared_of : ℤ → ℤ → ℤ → ℤ → ℕ
squared_of ax ay bx by = nat_abs ((ax -ℤ bx) *ℤ (ax -ℤ bx) +ℤ (ay -ℤ by) *ℤ (ay -ℤ by))

-- what the call on two points says: a refusal's number and where, or the squared distance
pub record Measured : Type 0 where
  pub code : ℕ
  pub at : ℕ
  pub squared : ℕ

-- 12 at the first that is out of range, else their squared distance
abbrev pub answer : ℕ → ℕ → ℕ → Measured
answer code at squared = record { code = code; at = at; squared = squared }

unfoldable pub measured : ℤ → ℤ → ℤ → ℤ → Measured
measured ax ay bx by =
    cond (outside ax || outside ay) (answer 12 0 0)
    (cond (outside bx || outside by) (answer 12 1 0)
    (answer 0 0 (squared_of ax ay bx by)))

-- the same of its result
abbrev pub told : Result ℕ Refusal → Measured
told (Ok squared) = answer 0 0 squared
told (Err r) = answer (number r.reason) r.at 0

-- the span from lo to hi, and the box of two spans
abbrev pub span : ℤ → ℤ → Span
span lo hi = record { lo = lo; hi = hi }

abbrev pub box : Span → Span → Box
box x y = record { x = x; y = y }

-- a point is a box whose spans have equal ends
abbrev pub point : ℤ → ℤ → Box
point x y = box (span x x) (span y y)

-- how far b stands above a; 0 where it does not
unfoldable pub rise : ℤ → ℤ → ℕ
rise a b = cond (lt_z a b) (nat_abs (b -ℤ a)) 0

-- the stretch between two spans; 0 where they touch or overlap
abbrev pub gap : Span → Span → ℕ
gap s t = rise s.hi t.lo + rise t.hi s.lo

abbrev pub square : ℕ → ℕ
square n = n * n

-- the squared distance of two boxes, between their nearest points
abbrev pub apart : Box → Box → ℕ
apart b c = square (gap b.x c.x) + square (gap b.y c.y)

-- the lesser and the greater of two coordinates
unfoldable pub least : ℤ → ℤ → ℤ
least a b = cond (lt_z b a) b a

unfoldable pub greatest : ℤ → ℤ → ℤ
greatest a b = cond (lt_z a b) b a

-- the tightest span around two, and the tightest box
abbrev pub join_spans : Span → Span → Span
join_spans s t = span (least s.lo t.lo) (greatest s.hi t.hi)

abbrev pub join_boxes : Box → Box → Box
join_boxes b c = box (join_spans b.x c.x) (join_spans b.y c.y)

-- one span lies in another, and one box in another
pub record Inside (s t : Span) : Type 0 where
  pub lo : t.lo ≤ℤ s.lo
  pub hi : s.hi ≤ℤ t.hi

pub record Within (b c : Box) : Type 0 where
  pub x : Inside b.x c.x
  pub y : Inside b.y c.y

-- the ends of a span are in range, and so are the sides of a box
pub record InRange (s : Span) : Type 0 where
  pub lo : outside s.lo ≡ false
  pub hi : outside s.hi ≡ false

pub record Ranged (b : Box) : Type 0 where
  pub x : InRange b.x
  pub y : InRange b.y

-- a box that is not empty: the least of each span is not above its greatest
pub record Proper (b : Box) : Type 0 where
  pub x : b.x.lo ≤ℤ b.x.hi
  pub y : b.y.lo ≤ℤ b.y.hi

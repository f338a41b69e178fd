-- Laws of the gap of two spans, for one axis.
-- Assumes nothing.
use mathlib.Core.Path.{◌≡◌}
use Prim.Native.Nat.{◌+◌, ◌-◌, ◌≤◌}
use native.Mathlib.Nat.{add_comm}
use native.Mathlib.Omega.{arith}
use lib.IntN.{ℤ, nat_abs, ◌-ℤ◌}
use lib.Signed.{◌≤ℤ◌}
use Rattle.plane.specs.Plane.{span, gap, Inside, InRange}
use Rattle.plane.specs.declared.Span.{Span}
use Rattle.plane.proofs.WholeLaws.{up, down, le_read, rise_is, difference_is, range_read}

gap_is : (s t : Span) → gap s t ≡ (up t.lo + down s.hi - (up s.hi + down t.lo)) + (up s.lo + down t.hi - (up t.hi + down s.lo))
gap_is s t = omega (arith, rise_is s.hi t.lo, rise_is t.hi s.lo)

pub gap_comm : (s t : Span) → gap s t ≡ gap t s
gap_comm s t = add_comm _ _

-- a gap is at most the gap of spans inside
pub gap_within : (s t s' t' : Span) → Inside s' s → Inside t' t → gap s t ≤ gap s' t'
gap_within s t s' t' h k = omega (arith, gap_is s t, gap_is s' t', le_read)

-- two points
pub gap_point : (a b : ℤ) → gap (span a a) (span b b) ≡ nat_abs (a -ℤ b)
gap_point a b = omega (arith, gap_is (span a a) (span b b), difference_is a b)

-- in range: twice as much where a span may be empty
pub gap_ranged : (s t : Span) → InRange s → InRange t → gap s t ≤ 4000000
gap_ranged s t r w = omega (arith, gap_is s t, range_read s.lo r.lo, range_read s.hi r.hi, range_read t.lo w.lo, range_read t.hi w.hi)

pub gap_proper : (s t : Span) → s.lo ≤ℤ s.hi → t.lo ≤ℤ t.hi → InRange s → InRange t → gap s t ≤ 2000000
gap_proper s t p q r w =
    omega (arith, gap_is s t, le_read, range_read s.lo r.lo, range_read s.hi r.hi, range_read t.lo w.lo, range_read t.hi w.hi)

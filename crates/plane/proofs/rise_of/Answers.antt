use native.Mathlib.Omega.{arith}
use mir.Facts.{to_z-of_z}
use Rattle.plane.proofs.WholeLaws.{difference_is, rise_is}
use Rattle.plane.proofs.SignedLaws.{less, not_less, size}
use Rattle.plane.proofs.rise_of.Goals as goal

pub returns-then-a-b : goal.returns-then-a-b
returns-then-a-b c =
    let v = c.args in
    let d = difference_is v.b v.a in
    let e = rw (to_z-of_z c.ranges.b, to_z-of_z c.ranges.a) at c.abs_diff.ensures in
    record {
      value = omega (arith, less c.ranges.a c.ranges.b c.if-a-b.true, d, e, rise_is v.a v.b);
      bound = omega (arith, d, e, size c.ranges.a, size c.ranges.b);
    }

pub returns-else-a-b : goal.returns-else-a-b
returns-else-a-b c =
    record { value = omega (arith, not_less c.ranges.a c.ranges.b c.if-a-b.false, rise_is c.args.a c.args.b); bound = omega arith }

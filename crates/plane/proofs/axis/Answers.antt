use native.Mathlib.Omega.{arith}
use lib.IntN.{nat_abs, ◌-ℤ◌}
use mir.Facts.{to_z-of_z}
use Rattle.plane.proofs.WholeLaws.{difference_le, square_le}
use Rattle.plane.proofs.SignedLaws.{diff_of, square_fits, square_is, square_cast}
use Rattle.plane.proofs.axis.Goals as goal

pub overflow_mul-result : goal.overflow_mul-result
overflow_mul-result c =
    rw (diff_of c.ranges.a c.ranges.b c.from.ensures c.from-2.ensures)
    (square_fits (c.args.a -ℤ c.args.b) (difference_le c.args.a c.args.b c.requires.0 c.requires.1))

pub overflow_cast-result : goal.overflow_cast-result
overflow_cast-result c =
    let h = difference_le c.args.a c.args.b c.requires.0 c.requires.1 in
    rw (diff_of c.ranges.a c.ranges.b c.from.ensures c.from-2.ensures, to_z-of_z (square_fits (c.args.a -ℤ c.args.b) h))
    (square_cast (c.args.a -ℤ c.args.b) h)

pub returns : goal.returns
returns c =
    let d = c.args.a -ℤ c.args.b in
    let h = difference_le c.args.a c.args.b c.requires.0 c.requires.1 in
    rw (diff_of c.ranges.a c.ranges.b c.from.ensures c.from-2.ensures, to_z-of_z (square_fits d h))
    (record { value = square_is d; bound = omega (arith, square_is d, square_le (nat_abs d) 2000000 h) })

-- The three numbers of a place and 34 bytes around them.
-- Assumes nothing.
use Rattle.std.proofs.Common.{arith}
use mir.Facts.{to_z-of_z}
use Rattle.lines.proofs.NumberLaws.{decimal_length, width_most}
use Rattle.rows.proofs.SizeLaws.{signed_most, place_length}
use Rattle.pieces.proofs.place_size.Goals as goal

pub overflow_add-result : goal.overflow_add-result
overflow_add-result c = omega (arith, c.width.ensures, decimal_length c.args.i, width_most c.args.i)

pub overflow_add-result-2 : goal.overflow_add-result-2
overflow_add-result-2 c =
    let x = rw (to_z-of_z c.ranges.x) at c.width-2.ensures in
    omega (arith, c.width.ensures, decimal_length c.args.i, width_most c.args.i, signed_most c.args.x)

pub overflow_add-result-3 : goal.overflow_add-result-3
overflow_add-result-3 c =
    let x = rw (to_z-of_z c.ranges.x) at c.width-2.ensures in
    let y = rw (to_z-of_z c.ranges.y) at c.width-3.ensures in
    omega (arith, c.width.ensures, decimal_length c.args.i, width_most c.args.i, signed_most c.args.x, signed_most c.args.y)

pub returns : goal.returns
returns c = λ kit.
    let x = rw (to_z-of_z c.ranges.x) at c.width-2.ensures in
    let y = rw (to_z-of_z c.ranges.y) at c.width-3.ensures in
    omega (arith, c.width.ensures, decimal_length c.args.i, place_length c.args.i c.args.x c.args.y kit)

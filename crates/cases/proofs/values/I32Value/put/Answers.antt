use Rattle.std.proofs.Common.{arith}
use lib.IntN.{nat_abs}
use mir.Facts.{to_z-of_z}
use Rattle.lines.proofs.NumberLaws.{width_most}
use Rattle.print.proofs.SignLaws.{signed_length}
use Rattle.cases.proofs.values.I32Value.put.Goals as goal

-- a signed number has at most 21 bytes
pub put-requires : goal.put-requires
put-requires c =
    let f = c.ranges.self in
    let long = signed_length f in
    rw (to_z-of_z f) (omega (arith, long.0, long.1, width_most (nat_abs c.args.self)))

use Rattle.std.proofs.Common.{◌<◌, ◌^◌, arith}
use mir.Facts.{to_z-of_z}
use lib.Signed.{mag}
use Rattle.plane.proofs.SignedLaws.{fit}
use Rattle.members.proofs.Members.alike.Goals as goal

pub returns : goal.returns
returns c =
    let b = c.args.b in
    let w : mag b.x.lo < 2 ^ 31 = omega arith in
    let e : mag b.x.hi < 2 ^ 31 = omega arith in
    let s : mag b.y.lo < 2 ^ 31 = omega arith in
    let n : mag b.y.hi < 2 ^ 31 = omega arith in
    rw (to_z-of_z (fit b.x.lo w), to_z-of_z (fit b.x.hi e), to_z-of_z (fit b.y.lo s), to_z-of_z (fit b.y.hi n))

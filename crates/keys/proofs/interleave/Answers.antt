-- The bits of both, drawn apart, fill each other's gaps.
-- Assumes nothing.
use native.Mathlib.Omega.{arith}
use Rattle.keys.proofs.KeyLaws.{interleaved_below, interleaved_sum}
use Rattle.keys.proofs.interleave.Goals as goal

pub returns : goal.returns
returns c =
    let v = c.args in
    let e = interleaved_sum 21 v.a v.b in
    record { value = omega (arith, e); bound = omega (arith, e, interleaved_below 21 21 v.a v.b (omega arith)) }

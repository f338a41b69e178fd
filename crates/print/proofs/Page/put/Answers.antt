use native.Mathlib.Numerals.{add-one}
use native.Mathlib.Omega.{arith}
use lib.Seq.{paste-suc}
use Rattle.print.proofs.Page.put.Goals as goal

pub loop-i-preserved : goal.loop-i-preserved
loop-i-preserved c =
    let p = c.args.self.now in
    rw (c.loop-i.invariant, add-one) (paste-suc p.out.now p.at c.args.text.now c.loop-i.i 0 (omega (arith, c.loop-i-test.true)) (omega (arith, c.requires)))

-- The digits that `io` makes are the number's text.
-- Assumes nothing.
use Rattle.std.proofs.Common.{◌∙◌, ap, length, arith}
use Rattle.print.proofs.PutLaws.{decimal_made}
use Rattle.print.proofs.WroteLaws.{wrote_text}
use Rattle.print.proofs.U64Value.put.Goals as goal

pub put-requires : goal.put-requires
put-requires c =
    let made = c.decimal-k.ensures in
    omega (arith, ap length (made.digits ∙ decimal_made _ _ c.ranges.self.fits made.len))

pub returns : goal.returns
returns c = let made = c.decimal-k.ensures in wrote_text (made.digits ∙ decimal_made _ _ c.ranges.self.fits made.len) c.put.ensures

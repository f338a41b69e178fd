-- The digits that `io` makes are the word's text.
-- Assumes nothing.
use Rattle.std.proofs.Common.{◌∙◌, ap, length, arith}
use Rattle.print.proofs.PutLaws.{hex_made}
use Rattle.print.proofs.WroteLaws.{wrote_text}
use Rattle.print.proofs.BitsValue.put.Goals as goal

pub put-requires : goal.put-requires
put-requires c =
    let made = c.hex-k.ensures in
    omega (arith, ap length (made.digits ∙ hex_made c.args.self.0 c.hex-k.result (omega (arith, made.in_bounds, c.hex-k.array_long)) made.len))

pub returns : goal.returns
returns c =
    let made = c.hex-k.ensures in
    wrote_text (made.digits ∙ hex_made c.args.self.0 c.hex-k.result (omega (arith, made.in_bounds, c.hex-k.array_long)) made.len) c.put.ensures

-- The digits that `io` makes are as many as the number has.
-- Assumes nothing.
use Rattle.std.proofs.Common.{sym, ◌∙◌}
use Rattle.lines.proofs.NumberLaws.{decimal_length}
use Rattle.print.proofs.PutLaws.{width_made}
use Rattle.print.proofs.U64Number.width.Goals as goal

pub returns : goal.returns
returns c = width_made _ _ c.ranges.self.fits c.decimal.ensures.len ∙ sym (decimal_length c.args.self)

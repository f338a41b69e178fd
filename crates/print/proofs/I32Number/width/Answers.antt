-- A minus is one byte more.
-- Assumes nothing.
use Rattle.std.proofs.Common.{◌∙◌, ap, arith}
use Rattle.lines.specs.Text.{width}
use Rattle.lines.proofs.NumberLaws.{decimal_length, width_most}
use Rattle.print.proofs.SignLaws.{passed, signed_length}
use Rattle.print.proofs.I32Number.width.Goals as goal

pub overflow_add-result : goal.overflow_add-result
overflow_add-result c = omega (arith, c.from.ensures, signed_length c.ranges.self, c.width.ensures, decimal_length c.from-2.result, width_most c.from-2.result)

pub returns : goal.returns
returns c =
    let digits = ap width (c.from-2.ensures ∙ passed c.ranges.self c.unsigned_abs.ensures.value) in
    omega (arith, c.from.ensures, c.width.ensures, decimal_length c.from-2.result, digits, signed_length c.ranges.self)

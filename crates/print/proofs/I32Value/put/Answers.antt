-- A minus and the digits, or the digits alone.
-- Assumes nothing.
use Rattle.std.proofs.Common.{◌∙◌, sym, ap, length, arith}
use Rattle.lines.specs.Text.{decimal}
use Rattle.print.proofs.SignLaws.{passed, signed_below, signed_above}
use Rattle.print.proofs.WroteLaws.{wrote_then, wrote_text, wrote_length}
use Rattle.print.proofs.I32Value.put.Goals as goal
use Rattle.print.proofs.I32Value.put.Goals.{then-self-lt0, else-self-lt0}

pub put-requires : goal.put-requires
put-requires c = omega (arith, ap length (signed_below c.ranges.self c.if-self-lt0.true))

pub put-requires-2 : goal.put-requires-2
put-requires-2 c =
    let digits = ap (λ n. length (decimal n)) (c.from.ensures ∙ passed c.ranges.self c.unsigned_abs.ensures.value) in
    elim c.if-self-lt0.branch [
      | then-self-lt0 w ↦ rw w.page-is (omega (arith, ap length (signed_below c.ranges.self w.if-self-lt0.true), wrote_length w.put.ensures, w.put.ensures.puts.end))
      | else-self-lt0 w ↦ rw w.page-is (omega (arith, ap length (signed_above c.ranges.self w.if-self-lt0.false)))
    ]

pub returns : goal.returns
returns c =
    let digits = ap decimal (c.from.ensures ∙ passed c.ranges.self c.unsigned_abs.ensures.value) in
    let number = wrote_text digits c.put-2.ensures in
    elim c.if-self-lt0.branch [
      | then-self-lt0 w ↦ wrote_text (sym (signed_below c.ranges.self w.if-self-lt0.true)) (wrote_then w.put.ensures (rw w.page-is at number))
      | else-self-lt0 w ↦ wrote_text (sym (signed_above c.ranges.self w.if-self-lt0.false)) (rw w.page-is at number)
    ]

-- Three lines, one after the other.
-- Assumes nothing.
use Rattle.std.proofs.Common.{ap}
use Rattle.print.proofs.WroteLaws.{wrote_then, wrote_text}
use Rattle.report.specs.Answer.{number_line}
use Rattle.report.proofs.put_measure.Goals as goal

pub returns : goal.returns
returns c =
    let distance = wrote_text (ap (number_line "distance=") c.distance.ensures) c.put_line-2.ensures in
    let steps = wrote_text (ap (number_line "steps=") c.from.ensures) c.put_line-3.ensures in
    wrote_then c.put_line.ensures (wrote_then distance steps)

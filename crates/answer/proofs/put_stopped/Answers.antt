-- The word, the steps and the end, one after another.
-- Assumes nothing.
use Rattle.std.proofs.Common.{ap}
use Rattle.print.proofs.WroteLaws.{wrote_then, wrote_text}
use Rattle.report.specs.Answer.{number_line, stopped_lines}
use Rattle.answer.proofs.put_stopped.Goals as goal

pub returns : goal.returns
unfolding stopped_lines
returns c =
    let steps = wrote_text (ap (number_line "steps=") c.from.ensures) c.put_line-2.ensures in
    wrote_then c.put_line.ensures (wrote_then steps c.put_end.ensures)

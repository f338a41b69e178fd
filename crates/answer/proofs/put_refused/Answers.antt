-- The word, the number, its family, where and the end, one after another.
-- Assumes nothing.
use Rattle.std.proofs.Common.{ap}
use Rattle.print.proofs.WroteLaws.{wrote_then, wrote_text}
use Rattle.report.specs.Answer.{number_line, refused_lines}
use Rattle.answer.proofs.put_refused.Goals as goal

pub returns : goal.returns
unfolding refused_lines
returns c =
    let code = wrote_text (ap (number_line "code=") c.from.ensures) c.put_line.ensures in
    wrote_then c.put.ensures (wrote_then code (wrote_then c.put_family.ensures (wrote_then c.put_line-2.ensures c.put_end.ensures)))

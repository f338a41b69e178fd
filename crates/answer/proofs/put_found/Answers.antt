-- The word, what the group measures, its places and the end, one after another.
-- Assumes nothing.
use Rattle.print.proofs.WroteLaws.{wrote_then}
use Rattle.report.specs.Answer.{found_lines}
use Rattle.answer.proofs.put_found.Goals as goal

pub returns : goal.returns
unfolding found_lines
returns c = wrote_then c.put.ensures (wrote_then c.put_measure.ensures (wrote_then c.put_group.ensures c.put_end.ensures))

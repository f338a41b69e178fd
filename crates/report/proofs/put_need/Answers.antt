-- Two lines, one after the other.
-- Assumes nothing.
use Rattle.print.proofs.WroteLaws.{wrote_then}
use Rattle.report.proofs.put_need.Goals as goal

pub returns : goal.returns
returns c = wrote_then c.put_line.ensures c.put_line-2.ensures

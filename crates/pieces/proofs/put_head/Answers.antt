-- Two lines, one after the other.
-- Assumes nothing.
use Rattle.print.proofs.WroteLaws.{wrote_then}
use Rattle.rows.specs.Pieces.{head_text}
use Rattle.pieces.proofs.put_head.Goals as goal

pub returns : goal.returns
unfolding head_text
returns c = wrote_then c.put.ensures c.put_line.ensures

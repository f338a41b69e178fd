-- Three lines, one after the other.
-- Assumes nothing.
use Rattle.std.proofs.Common.{ap}
use Rattle.lines.specs.Text.{ascii, decimal}
use Rattle.print.specs.Puts.{line_of}
use Rattle.print.proofs.WroteLaws.{wrote_then, wrote_text}
use Rattle.rows.specs.Sheet.{query_part}
use Rattle.rows.specs.Pieces.{query_text}
use Rattle.pieces.proofs.put_query.Goals as goal

pub returns : goal.returns
unfolding query_text query_part
returns c =
    let budget = wrote_text (ap (λ n. line_of (ascii "budget=") (decimal n)) c.from.ensures) c.put_line-2.ensures in
    wrote_then (wrote_then c.put_line.ensures budget) c.put.ensures

-- The key, the value's text and a line feed are one text.
-- Assumes nothing.
use Rattle.std.proofs.Common.{rules}
use Rattle.print.proofs.WroteLaws.{wrote_then}
use Rattle.print.proofs.Page.put_line.Goals as goal

pub returns : goal.returns
returns g c = search (rules, wrote_then)

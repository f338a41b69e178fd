-- What stands before the page's end is the answer.
-- Assumes nothing.
use Rattle.std.proofs.Common.{rules}
use Rattle.answer.specs.Lent.{laid}
use Rattle.answer.proofs.lines.Goals as goal

pub returns-clause-value : goal.returns-clause-value
unfolding laid
returns-clause-value c = let p = c.put_answer.ensures.puts in search rules

-- What is too long changes nothing.
-- Assumes nothing.
use Rattle.answer.proofs.LentLaws.{too_short, has_room}
use Rattle.answer.proofs.lay.Goals as goal

pub returns-then-out-n-clause-value : goal.returns-then-out-n-clause-value
returns-then-out-n-clause-value g c = (too_short c.args.given.now c.args.out.now c.if-out-n.true).0

pub returns-then-out-n-clause-out_after : goal.returns-then-out-n-clause-out_after
returns-then-out-n-clause-out_after g c = (too_short c.args.given.now c.args.out.now c.if-out-n.true).1

pub returns-clause-value : goal.returns-clause-value
returns-clause-value g c = (has_room c.args.given.now c.args.out.now c.if-out-n.false).0

pub returns-clause-out_after : goal.returns-clause-out_after
returns-clause-out_after g c = rw c.copy_from_slice.ensures.after (has_room c.args.given.now c.args.out.now c.if-out-n.false).1

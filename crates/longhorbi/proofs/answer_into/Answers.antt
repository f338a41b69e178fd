use Rattle.std.proofs.Common.{sym, length-take-le}
use Rattle.answer.proofs.LentLaws.{laid_within}
use Rattle.reply.specs.Reply.{printed}
use Rattle.longhorbi.proofs.answer_into.Goals as goal

-- the bytes to print stand in the buffer
pub slice_bounds-write_all-end : goal.slice_bounds-write_all-end
slice_bounds-write_all-end c = laid_within (printed _) _ c.reply-k.ensures.value c.reply-k.ensures.out_after

pub slice_bounds-write_all-end-2 : goal.slice_bounds-write_all-end-2
slice_bounds-write_all-end-2 c = sym (length-take-le _ _ (slice_bounds-write_all-end c))

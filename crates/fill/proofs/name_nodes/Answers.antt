use Rattle.std.proofs.Common.{arith, refl}
use Rattle.fill.proofs.FillLaws.{fill_done}
use Rattle.fill.proofs.name_nodes.Goals as goal

pub returns : goal.returns
returns c = fill_done c.loop-i.invariant refl (omega arith)

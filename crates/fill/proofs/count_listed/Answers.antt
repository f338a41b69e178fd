use Rattle.std.proofs.Common.{arith}
use Rattle.levels.proofs.LevelLaws.{nodes_few}
use Rattle.fill.proofs.count_listed.Goals as goal

pub overflow_add-n : goal.overflow_add-n
overflow_add-n c = omega (arith, nodes_few c.args.n c.requires.0)

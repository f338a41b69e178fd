use Rattle.std.proofs.Common.{arith}
use Rattle.levels.proofs.LevelLaws.{counting_first, counting_more, counting_last, nodes_few, size_few}
use Rattle.fill.proofs.count_nodes.Goals as goal

pub loop-size-init : goal.loop-size-init
loop-size-init c = counting_first c.args.n c.requires

pub overflow_add-size-in-loop-size : goal.overflow_add-size-in-loop-size
overflow_add-size-in-loop-size c = let k = c.loop-size.invariant in omega (arith, k.size_is, size_few c.args.n c.requires k.level k.low k.high)

pub overflow_add-nodes : goal.overflow_add-nodes
overflow_add-nodes c =
    let k = counting_more c.args.n c.requires _ _ c.loop-size.invariant c.loop-size-test.true in
    omega (arith, nodes_few c.args.n c.requires, k.count_is)

pub loop-size-preserved : goal.loop-size-preserved
loop-size-preserved c = counting_more c.args.n c.requires _ _ c.loop-size.invariant c.loop-size-test.true

pub returns : goal.returns
returns c = counting_last c.args.n c.requires _ _ c.loop-size.invariant (omega arith)

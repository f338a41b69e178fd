use Rattle.std.proofs.Common.{◌≡◌, suc, ◌+◌, ◌-◌, length, arith}
use Rattle.order.specs.Order.{order}
use Rattle.levels.specs.Levels.{nodes, listed}
use Rattle.levels.proofs.LevelLaws.{nodes_few, listed_is}
use Rattle.fill.proofs.FillLaws.{two_parts}
use Rattle.fill.proofs.fill_entries.Goals as goal

pub overflow_sub-named : goal.overflow_sub-named
overflow_sub-named c =
    let n = length c.t.inside.x.now in
    let r = rw (← c.t.view_is) at c.requires in
    omega (arith, r.listed_value.0, listed_is n r.plotted.few)

pub name_nodes-requires : goal.name_nodes-requires
name_nodes-requires c =
    let n = length c.t.inside.x.now in
    let r = rw (← c.t.view_is) at c.requires in
    (omega (arith, r.listed_value.0, listed_is n r.plotted.few, nodes_few n r.plotted.few), omega (arith, r.listed_value.1))

pub write_order-requires : goal.write_order-requires
write_order-requires c =
    let r = rw (← c.t.view_is) at c.requires in
    (r.plotted, omega (arith, r.listed_value.0, r.listed_value.1, listed_is (length c.t.inside.x.now) r.plotted.few))

pub returns : goal.returns
returns c =
    let n = length c.t.inside.x.now in
    let r = rw (← c.t.view_is) at c.requires in
    let k = c.args.listed - n in
    let all : k + n ≡ listed n = omega (arith, r.listed_value.0, listed_is n r.plotted.few) in
    let few : k ≡ nodes n - 1 = omega (arith, r.listed_value.0, listed_is n r.plotted.few) in
    rw (← c.t.view_is)
    (rw (all, few) at (two_parts suc (order c.t.inside.x.now c.t.inside.y.now) c.args.entries.now k n c.name_nodes.ensures c.write_order.ensures))

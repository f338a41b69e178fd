use Rattle.std.proofs.Common.{◌-◌, refl, arith}
use Rattle.std.specs.Int.Bits.{bit_or}
use mir.Facts.{to_z-of_z}
use Rattle.plane.specs.Plane.{join_boxes}
use Rattle.plane.proofs.SignedLaws.{fit}
use Rattle.table.specs.Table as table
use Rattle.tree.specs.Tree.{Shape, box_of, kit_of}
use Rattle.tree.specs.Lent.{shape, sides}
use Rattle.tree.proofs.NodeLaws.{wider}
use Rattle.fill.proofs.FillLaws.{fill_done}
use Rattle.fill.proofs.ValueLaws.{Read, leaf_run, node_run, run_due, value_more, box_filled}
use Rattle.fill.proofs.fill_values.Goals as goal
use Rattle.fill.proofs.fill_values.Goals.{After-from-many}

abbrev shape_at : After-from-many → Shape
shape_at c = let i = c.shape.inside in shape i.nodes i.listed i.level.now i.start.now i.count.now i.entries.now

-- the run of the node to be filled
read : (c : After-from-many) → Read c.args.t.now (shape_at c) (c.loop-m.m - 1) c.from-from.result c.from-many.result
read c =
    let r = rw (← c.shape.view_is) at c.requires in
    record { laid = r.laid; known = omega (arith, c.requires.nodes_value.0, c.loop-m.invariant.within); start = c.from-from.ensures; count = c.from-many.ensures }

pub run_box-b-requires-clause-in_run : goal.run_box-b-requires-clause-in_run
run_box-b-requires-clause-in_run c =
    let r = read (goal.at.run_box-b-requires-clause-in_run c).After-from-many in
    λ e. (leaf_run r e, wider (omega (arith, c.requires.nodes_value.1.y)) (leaf_run r e))

pub run_box-b-requires-clause-in_run_2 : goal.run_box-b-requires-clause-in_run_2
run_box-b-requires-clause-in_run_2 c =
    let r = read (goal.at.run_box-b-requires-clause-in_run_2 c).After-from-many in
    λ e. (wider (omega arith) (node_run r e), wider (omega arith) (node_run r e))

pub run_box-b-requires-clause-in_run_3 : goal.run_box-b-requires-clause-in_run_3
run_box-b-requires-clause-in_run_3 c =
    let r = read (goal.at.run_box-b-requires-clause-in_run_3 c).After-from-many in
    λ e. (wider (omega arith) (node_run r e), wider (omega arith) (node_run r e))

pub run_kit-requires-clause-in_run : goal.run_kit-requires-clause-in_run
run_kit-requires-clause-in_run c =
    let r = read (goal.at.run_kit-requires-clause-in_run c).After-from-many in
    λ e. wider (omega (arith, c.requires.nodes_value.1.kit)) (leaf_run r e)

pub run_kit-requires-clause-in_run_2 : goal.run_kit-requires-clause-in_run_2
run_kit-requires-clause-in_run_2 c =
    let r = read (goal.at.run_kit-requires-clause-in_run_2 c).After-from-many in
    λ e. wider (omega arith) (node_run r e)

pub loop-m-preserved : goal.loop-m-preserved
loop-m-preserved c =
    let r = read (goal.at.loop-m-preserved c).After-from-many in
    let t = c.args.t.now in
    let v = c.loop-m.invariant in
    let l = c.loop-m in
    let few = c.requires.nodes_value.0 in
    let e = run_due r join_boxes (table.box_of t) (box_of t (sides l.x_lo l.x_hi l.y_lo l.y_hi)) c.run_box-b.ensures (λ p. refl) (λ q a h. box_filled v q (omega arith) (omega (arith, few))) in
    let f = run_due r bit_or (table.kit_of t) (kit_of t l.kits) c.run_kit.ensures (λ p. refl) (λ q a h. v.words.filled q (omega arith) (omega (arith, few))) in
    let b = c.run_box-b.result in
    rw (to_z-of_z (fit b.x.lo (omega arith)), to_z-of_z (fit b.x.hi (omega arith)), to_z-of_z (fit b.y.lo (omega arith)), to_z-of_z (fit b.y.hi (omega arith)))
    (value_more v b c.run_kit.result c.loop-m-test.true e f)

pub returns-clause-x_lo_after : goal.returns-clause-x_lo_after
returns-clause-x_lo_after c = fill_done c.loop-m.invariant.x_lo (omega arith) refl

pub returns-clause-x_hi_after : goal.returns-clause-x_hi_after
returns-clause-x_hi_after c = fill_done c.loop-m.invariant.x_hi (omega arith) refl

pub returns-clause-y_lo_after : goal.returns-clause-y_lo_after
returns-clause-y_lo_after c = fill_done c.loop-m.invariant.y_lo (omega arith) refl

pub returns-clause-y_hi_after : goal.returns-clause-y_hi_after
returns-clause-y_hi_after c = fill_done c.loop-m.invariant.y_hi (omega arith) refl

pub returns-clause-kits_after : goal.returns-clause-kits_after
returns-clause-kits_after c = fill_done c.loop-m.invariant.words (omega arith) refl

use Rattle.std.proofs.Common.{[], refl}
use Rattle.table.specs.Table.{Valid}
use Rattle.table.proofs.TableLaws.{valid_even}
use Rattle.tree.specs.Rules.{Room, lengths}
use Rattle.verdict.specs.Rules.{AllHold, says}
use Rattle.verdict.proofs.RuleLaws.{passed}
use Rattle.levels.proofs.LaidLaws.{laid_of}
use Rattle.build.specs.Room.{build_rules}
use Rattle.build.specs.Lent.{lent}
use Rattle.build.proofs.BuildLaws.{plotted, room_of, written}
use Rattle.build.proofs.build.Goals as goal
use Rattle.build.proofs.build.Goals.{After-t}

-- nothing is refused
holds : (c : After-t) → AllHold (build_rules c.args.t.now (lengths (lent c.args.into)))
holds c = passed (build_rules c.args.t.now (lengths (lent c.args.into))) [] (says 0 0) (rw c.lengths.ensures at c.in_ok-b.ensures.refused) refl

valid : (c : After-t) → Valid c.args.t.now
valid c = let a = holds c in (a.0, (a.1.0, tt))

room : (c : After-t) → Room c.in_ok-b.b.nodes c.in_ok-b.b.listed (lengths (lent c.args.into))
room c = room_of c.in_ok-b.ensures.needed _ (holds c).1.1.0

pub fill_runs-requires-clause-n_bound : goal.fill_runs-requires-clause-n_bound
fill_runs-requires-clause-n_bound c =
    let n = rw (← c.t.view_is) at c.in_ok-b.ensures.needed in
    (n.few, n.nodes_is)

pub fill_runs-requires-clause-nodes_in_bounds : goal.fill_runs-requires-clause-nodes_in_bounds
fill_runs-requires-clause-nodes_in_bounds c =
    let r = room (goal.at.fill_runs-requires-clause-nodes_in_bounds c).After-t in
    (r.level, (r.start, r.count))

pub fill_entries-requires-clause-plotted : goal.fill_entries-requires-clause-plotted
fill_entries-requires-clause-plotted c = plotted (valid (goal.at.fill_entries-requires-clause-plotted c).After-t)

pub fill_entries-requires-clause-listed_value : goal.fill_entries-requires-clause-listed_value
fill_entries-requires-clause-listed_value c =
    (c.in_ok-b.ensures.needed.listed_is, (room (goal.at.fill_entries-requires-clause-listed_value c).After-t).entries)

pub fill_values-requires-clause-laid : goal.fill_values-requires-clause-laid
fill_values-requires-clause-laid c =
    let n = rw (← c.t.view_is) at c.in_ok-b.ensures.needed in
    let runs = c.fill_runs.ensures in
    rw (← c.t.view_is) (laid_of n.few n.nodes_is _ _ _ _ runs.level_after runs.start_after runs.count_after (rw (← c.t.view_is) at c.fill_entries.ensures))

pub fill_values-requires-clause-nodes_value : goal.fill_values-requires-clause-nodes_value
fill_values-requires-clause-nodes_value c =
    (c.in_ok-b.ensures.needed.nodes_is, valid_even (valid (goal.at.fill_values-requires-clause-nodes_value c).After-t))

pub fill_values-requires-clause-sides_in_bounds : goal.fill_values-requires-clause-sides_in_bounds
fill_values-requires-clause-sides_in_bounds c =
    let r = room (goal.at.fill_values-requires-clause-sides_in_bounds c).After-t in
    (r.x_lo, (r.x_hi, (r.y_lo, r.y_hi)))

pub fill_values-requires-clause-kits_in_bounds : goal.fill_values-requires-clause-kits_in_bounds
fill_values-requires-clause-kits_in_bounds c = (room (goal.at.fill_values-requires-clause-kits_in_bounds c).After-t).kits

pub returns-clause-columns_after : goal.returns-clause-columns_after
returns-clause-columns_after c =
    let n = rw (← c.t.view_is) at c.in_ok-b.ensures.needed in
    let runs = c.fill_runs.ensures in
    let v = rw (← c.t.view_is) at c.fill_values.ensures in
    rw (← c.t.view_is)
    (written n (lent c.args.into) runs.level_after runs.start_after runs.count_after (rw (← c.t.view_is) at c.fill_entries.ensures) v.x_lo_after v.x_hi_after v.y_lo_after v.y_hi_after v.kits_after)

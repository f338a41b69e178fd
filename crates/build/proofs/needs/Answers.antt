use Rattle.std.proofs.Common.{◌≡◌, [], ◌∷◌, ◌≤◌, refl}
use Rattle.table.specs.Table.{Table, places, table_rules}
use Rattle.table.proofs.TableLaws.{valid_even}
use Rattle.verdict.specs.Rules.{says, verdict}
use Rattle.verdict.proofs.RuleLaws.{passed, passed_on}
use Rattle.build.specs.Room.{rule41, Needs}
use Rattle.verdict.proofs.SaidLaws.{handed_on}
use Rattle.build.proofs.BuildLaws.{no_room, room_enough}
use Rattle.build.proofs.needs.Goals as goal
use Rattle.build.proofs.needs.Goals.{After-count_listed-listed}

pub returns-in_err-check-clause-refused : goal.returns-in_err-check-clause-refused
returns-in_err-check-clause-refused c =
    handed_on (table_rules c.args.t.now) (rule41 c.args.t.now c.args.room ∷ []) _ c.in_err-check.field-0.0 c.from_residual.ensures.1 c.in_err-check.ensures

-- the table has passed
few : (t : Table) → says 0 0 ≡ verdict (table_rules t) → places t ≤ 4096
few t e = (valid_even (passed (table_rules t) [] (says 0 0) e refl)).few

pub count_nodes-nodes-requires : goal.count_nodes-nodes-requires
count_nodes-nodes-requires c = rw (← c.t.view_is) at (few c.args.t.now c.in_ok-check.ensures)

pub count_listed-listed-requires : goal.count_listed-listed-requires
count_listed-listed-requires c = (rw (← c.t.view_is) at (few c.args.t.now c.in_ok-check.ensures), c.count_nodes-nodes.ensures)

needed : (c : After-count_listed-listed) → Needs c.args.t.now c.count_nodes-nodes.result c.count_listed-listed.result
needed c =
    let n : places c.args.t.now ≤ 4096 = few c.args.t.now c.in_ok-check.ensures in
    rw (← c.t.view_is) (record { few = rw (← c.t.view_is) at n; nodes_is = c.count_nodes-nodes.ensures; listed_is = c.count_listed-listed.ensures })

pub returns-then-not-has_room-clause-refused : goal.returns-then-not-has_room-clause-refused
returns-then-not-has_room-clause-refused c =
    passed_on (table_rules c.args.t.now) _ (says 0 0) c.in_ok-check.ensures refl _
    (no_room (needed (goal.at.returns-then-not-has_room-clause-refused c).After-count_listed-listed) _ (c.has_room.ensures.fails c.if-not-has_room.true))

pub returns-clause-refused : goal.returns-clause-refused
returns-clause-refused c =
    passed_on (table_rules c.args.t.now) _ (says 0 0) c.in_ok-check.ensures refl _
    (room_enough (needed (goal.at.returns-clause-refused c).After-count_listed-listed) _ (c.has_room.ensures.holds c.if-not-has_room.false))

pub returns-clause-needed : goal.returns-clause-needed
returns-clause-needed c = needed (goal.at.returns-clause-needed c).After-count_listed-listed

use Rattle.std.proofs.Common.{◌≡◌, ◌+◌, ◌∙◌, ap, length, get_or, set, take, arith, refl}
use Rattle.kit.specs.Kit.{held, padded}
use Rattle.table.specs.Table.{Table}
use Rattle.tree.specs.Tree.{Tree, Shape, Sides, box_at}
use Rattle.members.specs.declared.Best.{Best}
use Rattle.members.specs.Best.{limit_of, improved}
use Rattle.groups.proofs.RoundLaws.{round, node_in, ranged_in, done, at_list, at_few, box_ranged, skipped, spent, too_far, learnt, place_in, place_held, place_box}
use Rattle.groups.proofs.take_groups.Goals as goal
use Rattle.groups.proofs.take_groups.Goals.{then-holds+else-not-take_step+then-row-limit, then-holds+else-not-take_step+else-row-limit, else-holds}

pub open_at-o-requires : goal.open_at-o-requires
open_at-o-requires c = node_in c.requires.passes c.args.w.now c.requires.few.0 c.args.top 1 c.args.c.now c.requires.opened (ap (λ (t : Tree). t.shape) c.tree.view_is)

pub overflow_add-number : goal.overflow_add-number
overflow_add-number c =
    let z = round c.args.w.now c.args.top 1 c.args.c.now c.requires.passes c.requires.few.0 c.requires.opened (ap (λ (t : Tree). t.shape) c.tree.view_is) c.open_at-o.ensures in
    omega (arith, at_few z c.loop-k.k c.loop-k-test.true)

pub offset_bounds-entries-o : goal.offset_bounds-entries-o
offset_bounds-entries-o c =
    let z = round c.args.w.now c.args.top 1 c.args.c.now c.requires.passes c.requires.few.0 c.requires.opened (ap (λ (t : Tree). t.shape) c.tree.view_is) c.open_at-o.ensures in
    omega (arith, at_few z c.loop-k.k c.loop-k-test.true)

pub bounds-entries-o : goal.bounds-entries-o
bounds-entries-o c =
    let v = ap (λ (t : Tree). t.shape) c.tree.view_is in
    let z = round c.args.w.now c.args.top 1 c.args.c.now c.requires.passes c.requires.few.0 c.requires.opened v c.open_at-o.ensures in
    let e : length c.shape.inside.entries.now ≡ length c.args.tree.now.shape.entries = ap (λ (s : Shape). length s.entries) (c.shape.view_is ∙ v) in
    omega (arith, at_list z c.loop-k.k c.loop-k-test.true, e)

pub bounds-kit-e : goal.bounds-kit-e
bounds-kit-e c =
    let v = ap (λ (t : Tree). t.shape) c.tree.view_is in
    let z = round c.args.w.now c.args.top 1 c.args.c.now c.requires.passes c.requires.few.0 c.requires.opened v c.open_at-o.ensures in
    let n = c.from-e.ensures ∙ ap (λ (s : Shape). get_or s.entries (c.open_at-o.result.first + c.loop-k.k) 0) (c.shape.view_is ∙ v) in
    let e : length c.t.inside.kit.now ≡ length c.args.t.now.kit = ap (λ (t : Table). length t.kit) c.t.view_is in
    omega (arith, (place_in z c.loop-k.k c.loop-k-test.true n).1.1, e)

pub returns-then-not-take_step : goal.returns-then-not-take_step
returns-then-not-take_step c =
    let v = ap (λ (t : Tree). t.shape) c.tree.view_is in
    let z = round c.args.w.now c.args.top 1 c.args.c.now c.requires.passes c.requires.few.0 c.requires.opened v c.open_at-o.ensures in
    let n = c.from-e.ensures ∙ ap (λ (s : Shape). get_or s.entries (c.open_at-o.result.first + c.loop-k.k) 0) (c.shape.view_is ∙ v) in
    let h = place_held z c.loop-k.k c.loop-k-test.true n (c.holds.ensures ∙ ap (λ (t : Table). held (get_or t.kit c.from-e.result 0) c.open_at-o.result.kind) c.t.view_is) in
    rw c.take_step.ensures.kept (spent z c.loop-k.k c.loop-k-test.true c.loop-k.invariant.going h c.if-holds.true c.take_step.ensures.stepped c.if-not-take_step.true)

pub box_at-requires : goal.box_at-requires
box_at-requires c =
    let v = ap (λ (t : Tree). t.shape) c.tree.view_is in
    let z = round c.args.w.now c.args.top 1 c.args.c.now c.requires.passes c.requires.few.0 c.requires.opened v c.open_at-o.ensures in
    let n = c.from-e.ensures ∙ ap (λ (s : Shape). get_or s.entries (c.open_at-o.result.first + c.loop-k.k) 0) (c.shape.view_is ∙ v) in
    let h = place_in z c.loop-k.k c.loop-k-test.true n in
    rw c.of_points-points.ensures (h.0, (h.0, (h.1.0, h.1.0)))

pub row_of-row-requires-clause-all_ranged : goal.row_of-row-requires-clause-all_ranged
row_of-row-requires-clause-all_ranged c =
    let v = ap (λ (t : Tree). t.shape) c.tree.view_is in
    let z = round c.args.w.now c.args.top 1 c.args.c.now c.requires.passes c.requires.few.0 c.requires.opened v c.open_at-o.ensures in
    let n = c.from-e.ensures ∙ ap (λ (s : Shape). get_or s.entries (c.open_at-o.result.first + c.loop-k.k) 0) (c.shape.view_is ∙ v) in
    (ranged_in z, box_ranged z c.loop-k.k c.loop-k-test.true (place_box z c.loop-k.k c.loop-k-test.true n (c.box_at.ensures ∙ ap (λ (b : Sides). box_at b c.from-e.result) c.of_points-points.ensures)))

pub rest_of-others-requires-clause-all_ranged : goal.rest_of-others-requires-clause-all_ranged
rest_of-others-requires-clause-all_ranged c =
    ranged_in (round c.args.w.now c.args.top 1 c.args.c.now c.requires.passes c.requires.few.0 c.requires.opened (ap (λ (t : Tree). t.shape) c.tree.view_is) c.open_at-o.ensures)

pub loop-k-preserved : goal.loop-k-preserved
loop-k-preserved c =
    let v = ap (λ (t : Tree). t.shape) c.tree.view_is in
    let z = round c.args.w.now c.args.top 1 c.args.c.now c.requires.passes c.requires.few.0 c.requires.opened v c.open_at-o.ensures in
    let n = c.from-e.ensures ∙ ap (λ (s : Shape). get_or s.entries (c.open_at-o.result.first + c.loop-k.k) 0) (c.shape.view_is ∙ v) in
    let h = place_held z c.loop-k.k c.loop-k-test.true n (c.holds.ensures ∙ ap (λ (t : Table). held (get_or t.kit c.from-e.result 0) c.open_at-o.result.kind) c.t.view_is) in
    let g = c.loop-k.invariant.going in
    elim c.if-holds.branch [
      | then-holds+else-not-take_step+then-row-limit w ↦ (
          let is = place_box z c.loop-k.k c.loop-k-test.true n (w.box_at.ensures ∙ ap (λ (b : Sides). box_at b c.from-e.result) c.of_points-points.ensures) in
          let l = w.limit-limit.ensures ∙ ap (λ (b : Best). limit_of b.known b.squared) w.take_step.ensures.kept in
          let new = w.offer.ensures.best ∙ ap (improved w.group_with.result w.max.result) w.take_step.ensures.kept in
          record {
            going = rw (w.p-is, w.offer.ensures.steps) (learnt z c.loop-k.k c.loop-k-test.true g h w.if-holds.true w.take_step.ensures.stepped w.if-not-take_step.false is l w.row_of-row.ensures c.requires.few.1 refl (omega arith) w.if-row-limit.true w.rest_of-others.ensures w.max.ensures (w.group_with.ensures ∙ ap (λ (s : Shape). padded (take c.args.w.now.m (set c.args.c.now.numbers c.args.top (get_or s.entries (c.open_at-o.result.first + c.loop-k.k) 0)))) (c.shape.view_is ∙ v)) new);
            rest = rw w.rest-is w.rest_of-others.ensures;
          })
      | then-holds+else-not-take_step+else-row-limit w ↦ (
          let is = place_box z c.loop-k.k c.loop-k-test.true n (w.box_at.ensures ∙ ap (λ (b : Sides). box_at b c.from-e.result) c.of_points-points.ensures) in
          let l = w.limit-limit.ensures ∙ ap (λ (b : Best). limit_of b.known b.squared) w.take_step.ensures.kept in
          record {
            going = rw (w.p-is, w.take_step.ensures.kept) (too_far z c.loop-k.k c.loop-k-test.true g h w.if-holds.true w.take_step.ensures.stepped w.if-not-take_step.false is l w.row_of-row.ensures w.row_of-row.type_inv w.if-row-limit.false);
            rest = rw w.rest-is c.loop-k.invariant.rest;
          })
      | else-holds w ↦ record { going = rw w.p-is (skipped z c.loop-k.k c.loop-k-test.true g h w.if-holds.false); rest = rw w.rest-is c.loop-k.invariant.rest }
    ]

pub returns : goal.returns
returns c =
    done (round c.args.w.now c.args.top 1 c.args.c.now c.requires.passes c.requires.few.0 c.requires.opened (ap (λ (t : Tree). t.shape) c.tree.view_is) c.open_at-o.ensures) c.loop-k.invariant.going c.loop-k-test.false

use Rattle.std.proofs.Common.{[], ◌≤◌, eqb, length, get_or, refl, sym, ap, ap₂, ◌∙◌, arith}
use Rattle.plane.specs.Plane.{join_boxes}
use Rattle.plane.proofs.SameLaws.{other_boxes}
use Rattle.verdict.proofs.RuleLaws.{breaks_at, holds_all}
use Rattle.tree.specs.Tree.{Shape, Tree, box_of}
use Rattle.tree.specs.Rules.{rule25}
use Rattle.tree.specs.Lent.{run_says}
use Rattle.tree.proofs.OwnerLaws.{runs_of}
use Rattle.tree.proofs.NodeLaws.{nodes_none, nodes_more, wider, run_says_lem, leaf_in, node_in}
use Rattle.inspect.proofs.boxes.Goals as goal

pub loop-n-init : goal.loop-n-init
loop-n-init c = nodes_none _ _

pub run_box-due-requires-clause-in_run : goal.run_box-due-requires-clause-in_run
run_box-due-requires-clause-in_run c e =
    let is = c.s.view_is ∙ ap (λ (t : Tree). t.shape) c.tree.view_is in
    let leaf = leaf_in (rw (← is) at (runs_of c.requires.all_hold)) c.loop-n.n c.loop-n-test.true (length c.args.t.now.x) (rw (← is) at c.requires.holds)
    (rw (← is) at c.requires.columns.entries) e in
    rw (c.from-from.ensures, c.from-count.ensures) (leaf, wider (omega (arith, c.requires.y_len)) leaf)

pub run_box-due-requires-clause-in_run_2 : goal.run_box-due-requires-clause-in_run_2
run_box-due-requires-clause-in_run_2 c e =
    let is = c.s.view_is ∙ ap (λ (t : Tree). t.shape) c.tree.view_is in
    let node = node_in (rw (← is) at (runs_of c.requires.all_hold)) c.loop-n.n c.loop-n-test.true (length c.args.t.now.x) (rw (← is) at c.requires.holds)
    (rw (← is) at c.requires.columns.entries) e in
    let lo = rw (← is, ← c.tree.view_is) at c.requires.x_lo_len in
    let hi = rw (← is, ← c.tree.view_is) at c.requires.x_hi_len in
    rw (c.from-from.ensures, c.from-count.ensures) (wider lo node, wider hi node)

pub run_box-due-requires-clause-in_run_3 : goal.run_box-due-requires-clause-in_run_3
run_box-due-requires-clause-in_run_3 c e =
    let is = c.s.view_is ∙ ap (λ (t : Tree). t.shape) c.tree.view_is in
    let node = node_in (rw (← is) at (runs_of c.requires.all_hold)) c.loop-n.n c.loop-n-test.true (length c.args.t.now.x) (rw (← is) at c.requires.holds)
    (rw (← is) at c.requires.columns.entries) e in
    let lo = rw (← is, ← c.tree.view_is) at c.requires.y_lo_len in
    let hi = rw (← is, ← c.tree.view_is) at c.requires.y_hi_len in
    rw (c.from-from.ensures, c.from-count.ensures) (wider lo node, wider hi node)

pub returns-then-ne : goal.returns-then-ne
returns-then-ne c =
    let is = c.s.view_is ∙ ap (λ (t : Tree). t.shape) c.tree.view_is in
    let b = c.tree.inside.sides in
    let n = c.loop-n.n in
    let due = c.run_box-due.ensures
    ∙ ap₂ (run_says join_boxes (box_of c.args.t.now b) (eqb (get_or c.s.inside.level.now n 0) 1) c.s.inside.entries.now) c.from-from.ensures c.from-count.ensures
    ∙ run_says_lem (rw (← is) at (runs_of c.requires.all_hold)) n c.loop-n-test.true join_boxes (box_of c.args.t.now b) in
    let past = rw (← is, ← c.tree.view_is) at c.loop-n.invariant in
    rw (← is, ← c.tree.view_is)
    (breaks_at (rule25 c.args.t.now b _) refl [] n c.loop-n-test.true past.past
    (λ e. (other_boxes c.ne.ensures).0 c.if-ne.true (c.box_at.ensures ∙ e ∙ sym due)))

pub loop-n-preserved : goal.loop-n-preserved
loop-n-preserved c =
    let is = c.s.view_is ∙ ap (λ (t : Tree). t.shape) c.tree.view_is in
    let b = c.tree.inside.sides in
    let n = c.loop-n.n in
    let due = c.run_box-due.ensures
    ∙ ap₂ (run_says join_boxes (box_of c.args.t.now b) (eqb (get_or c.s.inside.level.now n 0) 1) c.s.inside.entries.now) c.from-from.ensures c.from-count.ensures
    ∙ run_says_lem (rw (← is) at (runs_of c.requires.all_hold)) n c.loop-n-test.true join_boxes (box_of c.args.t.now b) in
    let past = rw (← is, ← c.tree.view_is) at c.loop-n.invariant in
    rw (← is, ← c.tree.view_is)
    (nodes_more _ _ _ past c.loop-n-test.true (sym c.box_at.ensures ∙ (other_boxes c.ne.ensures).1 c.if-ne.false ∙ due))

pub returns : goal.returns
returns c =
    let is = c.s.view_is ∙ ap (λ (t : Tree). t.shape) c.tree.view_is in
    let done : c.args.tree.now.shape.nodes ≤ c.loop-n.n = omega (arith, c.loop-n-test.false, ap (λ (s : Shape). s.nodes) is) in
    holds_all (rule25 c.args.t.now c.args.tree.now.sides c.args.tree.now.shape) refl (λ k b. c.loop-n.invariant.past k (omega arith))

use Rattle.std.proofs.Common.{◌∙◌, ap, subst, arith, get_or, false, ℕ, replicate}
use Rattle.tree.specs.Tree.{Tree, Shape, box_at}
use Rattle.walks.specs.Allowance.{stand}
use Rattle.members.specs.declared.Best.{Best}
use Rattle.members.specs.Best.{best_at}
use Rattle.groups.specs.Members.{wanted, candidate}
use Rattle.groups.specs.Opening.{Led}
use Rattle.walk.proofs.RootLaws.{root_in, level_in, none_walked, roots_opened, roots_walked}
use Rattle.walk.proofs.walk_all.Goals as goal

pub returns-then-not-take_step : goal.returns-then-not-take_step
returns-then-not-take_step c =
    let none = c.take_step.ensures.stepped.none c.if-not-take_step.true in
    rw (c.take_step.ensures.kept, none.1) (none_walked c.requires.passes c.args.w.now c.requires.few (omega arith) c.requires.begun none.0)

pub box_at-requires : goal.box_at-requires
box_at-requires c = root_in c.requires.passes c.args.w.now c.requires.few (omega arith) c.requires.begun (ap (λ (t : Tree). t.sides) c.tree.view_is)

pub bounds-level-0 : goal.bounds-level-0
bounds-level-0 c = level_in c.requires.passes c.args.w.now c.requires.few (omega arith) c.requires.begun (c.shape.view_is ∙ ap (λ (t : Tree). t.shape) c.tree.view_is)

pub descend-spent-requires-clause-opened : goal.descend-spent-requires-clause-opened
descend-spent-requires-clause-opened c =
    let level = ap (λ (s : Shape). get_or s.level 0 0) (c.shape.view_is ∙ ap (λ (t : Tree). t.shape) c.tree.view_is) in
    let box = c.box_at.ensures ∙ ap (λ (t : Tree). box_at t.sides 0) c.tree.view_is in
    rw c.take_step.ensures.kept (roots_opened c.requires.passes c.args.w.now c.requires.few (omega arith) c.requires.begun level box c.alike-roots.ensures)

pub returns : goal.returns
returns c =
    let level = ap (λ (s : Shape). get_or s.level 0 0) (c.shape.view_is ∙ ap (λ (t : Tree). t.shape) c.tree.view_is) in
    let box = c.box_at.ensures ∙ ap (λ (t : Tree). box_at t.sides 0) c.tree.view_is in
    let one = c.take_step.ensures.stepped.some c.if-not-take_step.false in
    let led = subst (λ (b : Best). Led c.args.t.now c.args.tree.now (wanted c.args.w.now) c.args.w.now.allowance c.args.w.now.m (candidate c.args.w.now.m 0 (get_or c.shape.inside.level.now 0 0) c.alike-roots.result) 0 (stand c.take_step.new.self.steps false b) (stand c.descend-spent.new.p.steps c.descend-spent.result c.descend-spent.new.p.best)) c.take_step.ensures.kept c.descend-spent.ensures in
    let from = subst (λ (n : ℕ). Led c.args.t.now c.args.tree.now (wanted c.args.w.now) c.args.w.now.allowance c.args.w.now.m (candidate c.args.w.now.m 0 (get_or c.shape.inside.level.now 0 0) c.alike-roots.result) 0 (stand n false (best_at false 0 (replicate 8 0))) (stand c.descend-spent.new.p.steps c.descend-spent.result c.descend-spent.new.p.best)) one.1 led in
    roots_walked c.requires.passes c.args.w.now c.requires.few (omega arith) c.requires.begun level box c.alike-roots.ensures from one.0

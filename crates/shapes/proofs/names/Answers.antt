use Rattle.std.proofs.Common.{◌≤◌, ◌<◌, get_or, ◌∙◌, ap, arith}
use Rattle.tree.specs.Tree.{Shape}
use Rattle.tree.proofs.OwnerLaws.{runs_of, walked_first}
use Rattle.tree.proofs.NameLaws.{well_named, misnamed, all_named}
use Rattle.shapes.proofs.names.Goals as goal

pub loop-i-init : goal.loop-i-init
loop-i-init c = walked_first (runs_of c.requires.all_hold) _

pub returns-then-not-may_name : goal.returns-then-not-may_name
returns-then-not-may_name c =
    let listed : c.loop-i.i < c.args.s.now.listed = omega (arith, c.loop-i-test.true, ap (λ (s : Shape). s.listed) c.s.view_is) in
    misnamed
    (record {
      runs = runs_of c.requires.all_hold;
      walked = c.loop-i.invariant;
      listed = listed;
      level = c.from.ensures ∙ ap (λ (s : Shape). get_or s.level c.loop-i.n 0) c.s.view_is;
      entry = c.from-e.ensures ∙ ap (λ (s : Shape). get_or s.entries c.loop-i.i 0) c.s.view_is;
    })
    (c.may_name.ensures.fails c.if-not-may_name.true)

pub loop-i-preserved : goal.loop-i-preserved
loop-i-preserved c =
    let listed : c.loop-i.i < c.args.s.now.listed = omega (arith, c.loop-i-test.true, ap (λ (s : Shape). s.listed) c.s.view_is) in
    rw c.moved-n.ensures
    (well_named
    (record {
      runs = runs_of c.requires.all_hold;
      walked = c.loop-i.invariant;
      listed = listed;
      level = c.from.ensures ∙ ap (λ (s : Shape). get_or s.level c.loop-i.n 0) c.s.view_is;
      entry = c.from-e.ensures ∙ ap (λ (s : Shape). get_or s.entries c.loop-i.i 0) c.s.view_is;
    })
    (c.may_name.ensures.holds c.if-not-may_name.false))

pub returns : goal.returns
returns c =
    let done : c.args.s.now.listed ≤ c.loop-i.i = omega (arith, c.loop-i-test.false, ap (λ (s : Shape). s.listed) c.s.view_is) in
    all_named _ c.loop-i.invariant done

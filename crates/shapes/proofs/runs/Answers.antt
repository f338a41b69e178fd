use Rattle.std.proofs.Common.{◌≡◌, ◌+◌, sym, ◌∙◌, arith}
use mathlib.Core.Logic.{⊎_elim}
use Rattle.verdict.specs.Rules.{verdict, says}
use Rattle.tree.specs.Rules.{rules22}
use Rattle.tree.specs.Lent.{shape}
use Rattle.shapes.proofs.RunLaws.{Passed, passed_none, passed_more, misshaped, misended, runs_hold}
use Rattle.shapes.proofs.runs.Goals as goal

pub loop-n-init : goal.loop-n-init
loop-n-init c = λ entries. passed_none _

pub returns-then-level-lt1 : goal.returns-then-level-lt1
returns-then-level-lt1 c = λ entries.
    let go : Passed (shape c.args.s.now.nodes c.args.s.now.listed c.args.s.now.level c.args.s.now.start c.args.s.now.count entries) c.loop-n.n c.loop-n.due → says 22 c.loop-n.n ≡ verdict (rules22 (shape c.args.s.now.nodes c.args.s.now.listed c.args.s.now.level c.args.s.now.start c.args.s.now.count entries)) =
    rw (← c.s.view_is)
    (λ g.
    misshaped g c.loop-n-test.true
    (λ h.
    ⊎_elim (λ w. omega (arith, h.level_low))
    (⊎_elim (λ w. omega (arith, h.level_high)) (⊎_elim (λ w. omega (arith, h.count_low)) (⊎_elim (λ w. omega (arith, h.count_high)) (λ w. w.4 (c.from-start.ensures ∙ h.starts ∙ sym g.stands)))))
    c.then-level-lt1.either)) in
    go (c.loop-n.invariant entries)

pub loop-n-preserved : goal.loop-n-preserved
loop-n-preserved c = λ entries.
    let go : Passed (shape c.args.s.now.nodes c.args.s.now.listed c.args.s.now.level c.args.s.now.start c.args.s.now.count entries) c.loop-n.n c.loop-n.due → Passed (shape c.args.s.now.nodes c.args.s.now.listed c.args.s.now.level c.args.s.now.start c.args.s.now.count entries) (c.loop-n.n + 1) (c.loop-n.due + c.from-count.result) =
    rw (← c.s.view_is, c.from-count.ensures)
    (λ g.
    passed_more g c.loop-n-test.true
    (record {
      level_low = c.if-level-lt1.false;
      level_high = c.if-level-gt6.false;
      count_low = omega (arith, c.from-count.ensures, c.if-count-lt1.false);
      count_high = omega (arith, c.from-count.ensures, c.if-count-gt16.false);
      starts = sym c.from-start.ensures ∙ c.if-start-due.false ∙ g.stands;
    })) in
    go (c.loop-n.invariant entries)

pub returns-then-due-s : goal.returns-then-due-s
returns-then-due-s c = λ entries.
    let go : Passed (shape c.args.s.now.nodes c.args.s.now.listed c.args.s.now.level c.args.s.now.start c.args.s.now.count entries) c.loop-n.n c.loop-n.due → says 22 c.s.inside.nodes ≡ verdict (rules22 (shape c.args.s.now.nodes c.args.s.now.listed c.args.s.now.level c.args.s.now.start c.args.s.now.count entries)) =
    rw (← c.s.view_is) (λ g. misended g c.loop-n-test.false c.if-due-s.true) in
    go (c.loop-n.invariant entries)

pub returns : goal.returns
returns c = λ entries.
    let go : Passed (shape c.args.s.now.nodes c.args.s.now.listed c.args.s.now.level c.args.s.now.start c.args.s.now.count entries) c.loop-n.n c.loop-n.due → says 0 0 ≡ verdict (rules22 (shape c.args.s.now.nodes c.args.s.now.listed c.args.s.now.level c.args.s.now.start c.args.s.now.count entries)) =
    rw (← c.s.view_is) (λ g. runs_hold g c.loop-n-test.false c.if-due-s.false) in
    go (c.loop-n.invariant entries)

use Rattle.std.proofs.Common.{◌≡◌, ℕ, ◌≤◌, ◌<◌, refl, ◌∙◌, ap, arith, Option, Some, None}
use Rattle.verdict.specs.Rules.{says}
use Rattle.tree.specs.Tree.{Shape}
use Rattle.tree.proofs.OwnerLaws.{runs_of, walked_first, walked_more}
use Rattle.marks.proofs.RepeatLaws.{Alike, compared_first, compared_all, compared_more, beq_true, beq_false, repeated, none_repeated}
use Rattle.marks.proofs.repeats.Goals as goal
use Rattle.marks.proofs.repeats.Goals.{else-s-j-via-then-s-j+else-s-m, else-s-j-via-else-s-j, else-search-test, then-search-test+then-loop-j-test+then-s-j+then-s-m}

not_both : {x : Option ℕ} (i : ℕ) → x ≡ None → x ≡ Some i → ⊥
not_both i p q = cc

same : {x : Option ℕ} (i j : ℕ) → x ≡ Some i → x ≡ Some j → i ≡ j
same i j p q = cc

pub search-init : goal.search-init
search-init c = record { passed = walked_first (runs_of c.requires.all_hold) _; none = refl }

pub loop-j-init : goal.loop-j-init
loop-j-init c =
    let listed : c.search.i < c.args.s.now.listed = omega (arith, c.search-test.true, ap (λ (s : Shape). s.listed) c.s.view_is) in
    record { compared = compared_first (runs_of c.requires.all_hold) listed; none = c.search.invariant.none }

pub loop-j-preserved : goal.loop-j-preserved
loop-j-preserved c =
    let listed : c.search.i < c.args.s.now.listed = omega (arith, c.search-test.true, ap (λ (s : Shape). s.listed) c.s.view_is) in
    let other : Alike c.args.s.now c.search.i c.search.n c.loop-j.j c.loop-j.m → ⊥ =
    rw (← c.s.view_is)
    (λ u.
    elim c.else-s-j.branch [
      | else-s-j-via-then-s-j+else-s-m w ↦ beq_false _ _ w.if-s-m.false u.1
      | else-s-j-via-else-s-j w ↦ w.if-s-j.false u.0
    ]) in
    record {
      compared = rw c.moved-m.ensures (compared_more (runs_of c.requires.all_hold) c.search.invariant.passed listed c.loop-j.invariant.compared c.loop-j-test.true other);
      none = c.loop-j.invariant.none;
    }

pub search-preserved : goal.search-preserved
search-preserved c =
    let listed : c.search.i < c.args.s.now.listed = omega (arith, c.search-test.true, ap (λ (s : Shape). s.listed) c.s.view_is) in
    record {
      passed = rw c.moved-n.ensures
          (walked_more (runs_of c.requires.all_hold) _ c.search.invariant.passed listed (compared_all c.loop-j.invariant.compared c.loop-j-test.false));
      none = c.loop-j.invariant.none;
    }

pub returns-in-Some : goal.returns-in-Some
returns-in-Some c =
    elim c.search-test.branch [
      | else-search-test w ↦ absurd (not_both c.in-Some.at (w.repeated-is ∙ c.search.invariant.none) c.in-Some.is)
      | then-search-test+then-loop-j-test+then-s-j+then-s-m w ↦
          let listed : c.search.i < c.args.s.now.listed = omega (arith, w.search-test.true, ap (λ (s : Shape). s.listed) c.s.view_is) in
          let alike : Alike c.args.s.now c.search.i c.search.n w.loop-j.j w.loop-j.m = rw (← c.s.view_is) (w.if-s-j.true, beq_true _ _ w.if-s-m.true) in
          ap (says 24) (same _ _ c.in-Some.is w.repeated-is)
          ∙ repeated (runs_of c.requires.all_hold) c.search.invariant.passed listed w.loop-j.invariant.compared w.loop-j-test.true alike
    ]

pub returns-in-None : goal.returns-in-None
returns-in-None c =
    elim c.search-test.branch [
      | else-search-test w ↦
          let done : c.args.s.now.listed ≤ c.search.i = omega (arith, w.search-test.false, ap (λ (s : Shape). s.listed) c.s.view_is) in
          none_repeated c.search.invariant.passed done
      | then-search-test+then-loop-j-test+then-s-j+then-s-m w ↦ absurd (not_both c.search.i c.in-None.is w.repeated-is)
    ]

use Rattle.std.proofs.Common.{refl, ◌∙◌, arith}
use Rattle.verdict.proofs.RuleLaws.{breaks_at, holds_on, holds_all}
use Rattle.found.specs.Search.{rule1, rule2}
use Rattle.found.proofs.want_fault.Goals as goal

pub returns-then-many-lt1 : goal.returns-then-many-lt1
returns-then-many-lt1 c = breaks_at (rule1 _) refl _ 0 (omega arith) (λ j l. absurd (omega arith)) (λ h. omega (arith, c.if-many-lt1.true, c.count_kinds-many.ensures))

pub returns-then-many-gt8 : goal.returns-then-many-gt8
returns-then-many-gt8 c =
    breaks_at (rule2 _) refl _ 0 (omega arith) (λ j l. absurd (omega arith)) (λ h. omega (arith, c.if-many-gt8.true, c.count_kinds-many.ensures))
    ∙ holds_on (rule1 _) refl _ (λ j l. omega (arith, c.if-many-lt1.false, c.count_kinds-many.ensures))

pub returns : goal.returns
returns c =
    holds_all (rule2 _) refl (λ j l. omega (arith, c.if-many-gt8.false, c.count_kinds-many.ensures))
    ∙ holds_on (rule1 _) refl _ (λ j l. omega (arith, c.if-many-lt1.false, c.count_kinds-many.ensures))

use Rattle.std.proofs.Common.{◌∙◌, ap, ℕ}
use Rattle.found.specs.Search.{refused}
use Rattle.found.proofs.SearchLaws.{outcome_spent, outcome_wide, outcome_found}
use Rattle.found.proofs.outcome_of.Goals as goal

pub returns-then-s : goal.returns-then-s
returns-then-s c = outcome_spent c.args.s c.if-s.true

pub returns-then-best-gt8000000000000 : goal.returns-then-best-gt8000000000000
returns-then-best-gt8000000000000 c = c.refuse.ensures ∙ ap (λ (n : ℕ). refused n 0) c.code.ensures ∙ outcome_wide c.args.s c.if-s.false c.if-best-gt8000000000000.true

pub returns : goal.returns
returns c = outcome_found c.args.s c.if-s.false c.if-best-gt8000000000000.false

-- What a call that looks at a list of rules reports.
-- Assumes nothing.
use Rattle.std.specs.Prelude.{List, [], ◌∷◌, ℕ, ◌+◌, ◌≤◌, ◌<◌}
use Rattle.verdict.specs.Rules.{Rule, Holds, says, Verdict}

-- success where all rules hold; else the first broken rule, with the lowest of its places at which it breaks
pub data Reports : List Rule → Verdict → Type 1 where
  success : Reports [] (says 0 0)
  refusal : (r : Rule) (rs : List Rule) (k : ℕ) → r.from ≤ k → k < r.from + r.many → ((j : ℕ) → r.from ≤ j → j < k → r.Asks j) → (r.Asks k → ⊥) → Reports (r ∷ rs) (says r.code k)
  further : (r : Rule) (rs : List Rule) (v : Verdict) → Holds r → Reports rs v → Reports (r ∷ rs) v

-- the numbers that can be reported: 0, and those of the rules
unfoldable pub codes_of : List Rule → List ℕ
codes_of [] = []
codes_of (r ∷ rs) = r.code ∷ codes_of rs

-- The search: what it refuses, and what it gives.
-- Assumes nothing.
use Rattle.std.specs.Prelude.{true, false, List, [], ◌∷◌, ◌++◌, ℕ, ◌≤◌, ltb, eqb, length, replicate}
use Rattle.std.proofs.Math.Decide.{dec_le}
use Rattle.std.proofs.Common.{lit≤}
use Rattle.kit.specs.Kit.{kinds}
use Rattle.table.specs.Table.{Table}
use Rattle.tree.specs.Tree.{Tree}
use Rattle.tree.specs.Rules.{check_rules}
use Rattle.verdict.specs.Rules.{Rule, Verdict, verdict}
use Rattle.closest.specs.Walk.{begins, stands_at}
use Rattle.walk.specs.State.{state_of}
use Rattle.walk.specs.declared.State.{State}
use Rattle.found.specs.declared.Found.{Found}

-- 1: the want names a kind; 2: it names at most eight
abbrev pub rule1 : ℕ → Rule
rule1 want = record { code = 1; numbered = lit≤ tt; from = 0; many = 1; Asks = λ _. 1 ≤ length (kinds want); decides = λ _. dec_le 1 (length (kinds want)) }

abbrev pub rule2 : ℕ → Rule
rule2 want = record { code = 2; numbered = lit≤ tt; from = 0; many = 1; Asks = λ _. length (kinds want) ≤ 8; decides = λ _. dec_le (length (kinds want)) 8 }

abbrev pub query_rules : ℕ → List Rule
query_rules want = rule1 want ∷ rule2 want ∷ []

-- what a search looks at before it walks: the want, the table, the tree
abbrev pub search_rules : Table → Tree → ℕ → List Rule
search_rules t tree want = query_rules want ++ check_rules t tree

-- a refused search
abbrev pub refused : ℕ → ℕ → Found
refused code at = record { code = code; at = at; places = replicate 8 0; squared = 0; steps = 0; known = false }

-- what a walk comes to: 32 with the best known where it is spent, 33 where the best is too wide, else the best
abbrev pub said : ℕ → State → Found
said code s = record { code = code; at = 0; places = s.best.places; squared = s.best.squared; steps = s.steps; known = s.best.known }

unfoldable pub outcome : State → Found
outcome s = elim s.spent [ true ↦ said 32 s | false ↦ elim (ltb 8000000000000 s.best.squared) [ true ↦ refused 33 0 | false ↦ said 0 s ] ]

-- the search of a want
unfoldable pub searched : Table → Tree → ℕ → ℕ → Found
searched t tree want allowance =
    let v : Verdict = verdict (search_rules t tree want) in
    elim (eqb v.code 0) [
      | false ↦ refused v.code v.at
      | true ↦ elim (begins t tree (kinds want)) [ false ↦ refused 31 0 | true ↦ outcome (state_of t (stands_at t tree (kinds want) allowance)) ]
    ]

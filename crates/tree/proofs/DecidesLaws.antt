-- Ways to decide.
-- Assumes nothing.
use mathlib.Core.Bool.{Bool, true, false, true≢false, false≢true}
use Rattle.tree.specs.Lent.{Decides}

pub decides_yes : {P : Type 0} → P → Decides true P
decides_yes h = record { holds = λ _. h; fails = λ e _. true≢false e }

pub decides_no : {P : Type 0} → (P → ⊥) → Decides false P
decides_no n = record { holds = λ e. absurd (false≢true e); fails = λ _ h. n h }

-- Rules, and what a check of a list of them says.
-- Assumes nothing.
use Rattle.std.specs.Prelude.{ℕ, ◌+◌, ◌≤◌, ◌<◌, List, [], ◌∷◌, Result, Ok, Err}
use Rattle.std.proofs.Math.Decide.{dec_lt}
use Rattle.verdict.specs.First.{first_not}
use Rattle.verdict.specs.declared.Refusal.{Refusal}
use Rattle.verdict.specs.Numbers.{number}

-- A rule: the number that reports a break of it, the places at which it is looked at, what it asks of a place, and that this is decided.
pub record Rule : Type 1 where
  pub code : ℕ
  pub numbered : 1 ≤ code
  pub from : ℕ
  pub many : ℕ
  pub Asks : ℕ → Type 0
  pub decides : (k : ℕ) → Dec (Asks k)

-- a rule holds where it holds at each of its places
abbrev pub Holds : Rule → Type 0
Holds r = (k : ℕ) → r.from ≤ k → k < r.from + r.many → r.Asks k

abbrev pub AllHold : List Rule → Type 0
AllHold [] = Unit {0}
AllHold (r ∷ rs) = Holds r × AllHold rs

-- the lowest place at which a rule breaks
unfoldable pub lowest : Rule → ℕ
unfolding first_not
lowest r = first_not r.decides r.from r.many

-- What a call says: the refusal's number and where, both 0 where nothing is refused.
pub record Verdict : Type 0 where
  pub code : ℕ
  pub at : ℕ

abbrev pub says : ℕ → ℕ → Verdict
says code at = record { code = code; at = at }

-- what a result says, whatever else it holds
abbrev pub said : {A : Type 0} → Result A Refusal → Verdict
said (Ok _) = says 0 0
said (Err r) = says (number r.reason) r.at

-- the first broken rule, with the lowest place where it breaks: a later rule is looked at only when all earlier ones hold
unfoldable pub verdict : List Rule → Verdict
unfolding lowest dec_lt
verdict [] = says 0 0
verdict (r ∷ rs) = elim (dec_lt (lowest r) (r.from + r.many)) [ yes _ ↦ says r.code (lowest r) | no _ ↦ verdict rs ]

-- What a call knows that holds rules part by part, from what each part's result says.
-- Assumes nothing.
use Rattle.std.proofs.Common.{◌≡◌, ℕ, List, [], ◌++◌, Result, Ok, Err, ◌∙◌, sym, ap, arith}
use Rattle.std.specs.Result.{IsErrAnd}
use Rattle.verdict.specs.Numbers.{number}
use Rattle.verdict.specs.Rules.{Rule, AllHold, Verdict, verdict, says, said}
use Rattle.verdict.specs.declared.Reason.{Reason}
use Rattle.verdict.specs.declared.Refusal.{Refusal}
use Rattle.verdict.proofs.RuleLaws.{passed, passed_on, stopped}

-- no reason has the number 0
pub numbered : (r : Reason) → number r ≡ 0 → ⊥
numbered r e = grind arith

module _ (rs more : List Rule) where
  -- a part that refuses: nothing after it is looked at
  pub refused_on : (r : Refusal) → says (number r.reason) r.at ≡ verdict rs → says (number r.reason) r.at ≡ verdict (rs ++ more)
  refused_on r is = stopped rs more _ is (numbered r.reason)

  -- a part that refuses nothing
  pub held_on : says 0 0 ≡ verdict rs → {w : Verdict} → w ≡ verdict more → w ≡ verdict (rs ++ more)
  held_on is {w} e = passed_on rs more _ is (λ i. 0) w e

-- a result that hands on what the first rules refuse
pub handed_on : {A : Type 0} (rs more : List Rule) (r : Result A Refusal) (e : Refusal) → IsErrAnd r (λ x. x ≡ e) → says (number e.reason) e.at ≡ verdict rs → said r ≡ verdict (rs ++ more)
handed_on rs more (Ok _) e k h = absurd k
handed_on rs more (Err x) e k h = rw k (refused_on rs more e h)

pub none_refused : (rs : List Rule) → says 0 0 ≡ verdict rs → AllHold rs
none_refused rs is = passed rs [] _ is (λ i. 0)

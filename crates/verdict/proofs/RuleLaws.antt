-- What a list of rules comes to: its verdict has code 0 exactly where every rule holds.
-- Assumes nothing.
use Prim.Native.Nat.{ℕ, ◌+◌, ◌<◌}
use mathlib.Core.Path.{◌≡◌, refl, sym, ap, ◌∙◌}
use mathlib.Core.Logic.{◌↔◌}
use mathlib.Core.List.{List, [], ◌∷◌, ◌++◌}
use native.Mathlib.Decide.{dec_lt}
use native.Mathlib.Omega.{arith}
use Rattle.verdict.specs.Rules.{Rule, Verdict, Holds, AllHold, lowest, verdict, says}
use Rattle.verdict.proofs.FirstLaws.{First, first_found, first_is, first_none, first_all}

pub code_of : Verdict → ℕ
code_of v = v.code

module _ (r : Rule) (rs : List Rule) where
  broken_by : (k : ℕ) → lowest r ≡ k → k < r.from + r.many → (e : Dec (lowest r < r.from + r.many)) →
      elim e [ yes _ ↦ says r.code (lowest r) | no _ ↦ verdict rs ] ≡ says r.code k
  broken_by k e l (yes _) = ap (says r.code) e
  broken_by k e l (no h) = absurd (h (omega arith))

  -- the first rule breaks first at k
  pub broken : (k : ℕ) → First r.Asks r.from r.many k → k < r.from + r.many → verdict (r ∷ rs) ≡ says r.code k
  unfolding verdict
  broken k f l = broken_by k (first_is r.decides r.from r.many k f) l (dec_lt (lowest r) (r.from + r.many))

  held_by : lowest r ≡ r.from + r.many → (e : Dec (lowest r < r.from + r.many)) →
      elim e [ yes _ ↦ says r.code (lowest r) | no _ ↦ verdict rs ] ≡ verdict rs
  held_by e (yes l) = absurd (omega arith)
  held_by e (no _) = refl

  -- the first rule holds
  pub held : Holds r → verdict (r ∷ rs) ≡ verdict rs
  unfolding verdict
  held h = held_by (first_is r.decides r.from r.many _ (first_none r.from r.many h)) (dec_lt (lowest r) (r.from + r.many))

  -- one of the two
  data Outcome : Type 0 where
    holds : Holds r → Outcome
    breaks : (k : ℕ) → First r.Asks r.from r.many k → k < r.from + r.many → Outcome

  outcome : Outcome
  unfolding lowest
  outcome = go (dec_lt (lowest r) (r.from + r.many))
    where
      go : Dec (lowest r < r.from + r.many) → Outcome
      go (yes l) = breaks (lowest r) (first_found r.decides r.from r.many) l
      go (no h) = holds (first_all r.decides r.from r.many (omega arith))

pub all_hold : (rs : List Rule) → AllHold rs → verdict rs ≡ says 0 0
unfolding verdict
all_hold [] h = refl
all_hold (r ∷ rs) h = held r rs h.0 ∙ all_hold rs h.1

pub none_broken : (rs : List Rule) → (verdict rs).code ≡ 0 → AllHold rs
unfolding code_of
none_broken [] e = tt
none_broken (r ∷ rs) e = go (outcome r rs) (none_broken rs)
  where
    go : Outcome r rs → ((verdict rs).code ≡ 0 → AllHold rs) → AllHold (r ∷ rs)
    go (holds h) more = (h, more (sym (ap code_of (held r rs h)) ∙ e))
    go (breaks k f l) more = absurd (omega (arith, sym (ap code_of (broken r rs k f l)) ∙ e, r.numbered))

-- code 0 exactly where every rule holds
pub code_zero : (rs : List Rule) → ((verdict rs).code ≡ 0) ↔ AllHold rs
unfolding code_of
code_zero rs = (none_broken rs, λ h. ap code_of (all_hold rs h))

-- one list of rules after another
pub goes_on : (rs more : List Rule) → AllHold rs → verdict (rs ++ more) ≡ verdict more
goes_on [] more h = refl
goes_on (r ∷ rs) more h = held r (rs ++ more) h.0 ∙ goes_on rs more h.1

pub stops : (rs more : List Rule) → ((verdict rs).code ≡ 0 → ⊥) → verdict (rs ++ more) ≡ verdict rs
unfolding verdict code_of
stops [] more n = absurd (n refl)
stops (r ∷ rs) more n = go (outcome r rs) (stops rs more)
  where
    go : Outcome r rs → (((verdict rs).code ≡ 0 → ⊥) → verdict (rs ++ more) ≡ verdict rs) → verdict (r ∷ rs ++ more) ≡ verdict (r ∷ rs)
    go (holds h) go_on = held r (rs ++ more) h ∙ go_on (λ e. n (ap code_of (held r rs h) ∙ e)) ∙ sym (held r rs h)
    go (breaks k f l) go_on = broken r (rs ++ more) k f l ∙ sym (broken r rs k f l)

-- the same for a verdict in hand, as a call that checks rules part by part has it
module _ (rs more : List Rule) (v : Verdict) (is : v ≡ verdict rs) where
  pub passed : v.code ≡ 0 → AllHold rs
  unfolding code_of
  passed e = none_broken rs (sym (ap code_of is) ∙ e)

  pub passed_on : v.code ≡ 0 → (w : Verdict) → w ≡ verdict more → w ≡ verdict (rs ++ more)
  passed_on e w f = f ∙ sym (goes_on rs more (passed e))

  pub stopped : (v.code ≡ 0 → ⊥) → v ≡ verdict (rs ++ more)
  unfolding code_of
  stopped n = is ∙ sym (stops rs more (λ e. n (ap code_of is ∙ e)))

-- a rule that is looked at from place 0 on, as a loop finds it
module _ (r : Rule) (start : r.from ≡ 0) where
  pub breaks_at : (rs : List Rule) (k : ℕ) → k < r.many → ((j : ℕ) → j < k → r.Asks j) → (r.Asks k → ⊥) → says r.code k ≡ verdict (r ∷ rs)
  breaks_at rs k l past h = sym (broken r rs k (record { above = omega arith; within = omega arith; before = λ j _ b. past j b; fails = λ _. h }) (omega arith))

  pub holds_on : (rs : List Rule) → ((j : ℕ) → j < r.many → r.Asks j) → verdict rs ≡ verdict (r ∷ rs)
  holds_on rs past = sym (held r rs (λ j _ b. past j (omega arith)))

  pub holds_all : ((j : ℕ) → j < r.many → r.Asks j) → says 0 0 ≡ verdict (r ∷ [])
  unfolding verdict
  holds_all past = holds_on [] past

-- The search by cases.
-- Assumes nothing.
use mathlib.Core.Path.{◌≡◌, sym, ap, subst, ◌∙◌}
use mathlib.Core.Bool.{true, false}
use mathlib.Core.List.{List}
use Prim.Native.Nat.{ℕ, ◌≤◌, ◌<◌}
use native.Mathlib.Omega.{arith}
use lib.ListN.{length, take, get_or, get_or-append}
use lib.Seq.{take-append_seam}
use borrow.Author.Tests.{ne_eqb, lt-ltb, le-ltb}
use Rattle.kit.specs.Kit.{kinds, all_held, padded}
use Rattle.kit.proofs.KindLaws.{kinds_member}
use Rattle.table.specs.Table.{Table}
use Rattle.tree.specs.Tree.{Tree, node, kit_of}
use Rattle.tree.specs.Rules.{check_rules}
use Rattle.verdict.specs.Rules.{AllHold, Verdict, verdict}
use Rattle.verdict.proofs.RuleLaws.{none_broken, all_hold, passed, stopped}
use Rattle.closest.specs.Walk.{begins, stands_at}
use Rattle.closest.proofs.AnswerLaws.{member_of}
use Rattle.groups.specs.Members.{Few, Passes}
use Rattle.walk.specs.State.{state_of}
use Rattle.walk.specs.declared.State.{State}
use Rattle.found.specs.Search.{query_rules, search_rules, refused, said, outcome, searched}

-- what the rules leave known
pub record Sound (t : Table) (tree : Tree) (want : ℕ) : Type 0 where
  pub some : 1 ≤ length (kinds want)
  pub few : length (kinds want) ≤ 8
  pub passes : Passes t tree

-- whether the root holds the kinds
pub begins_not : (t : Table) (tree : Tree) (kinds : List ℕ) → tree.shape.nodes ≡ 0 → begins t tree kinds ≡ false
unfolding begins
begins_not t tree kinds e = rw (begins, e)

pub begins_held : (t : Table) (tree : Tree) (kinds : List ℕ) → 0 < tree.shape.nodes → begins t tree kinds ≡ all_held (kit_of t tree.kits (node 0)) kinds
unfolding begins
begins_held t tree kinds l = rw (begins, lt-ltb 0 tree.shape.nodes l)

-- the outcomes of a walk
pub outcome_spent : (s : State) → s.spent ≡ true → said 32 s ≡ outcome s
unfolding outcome
outcome_spent s e = rw (outcome, e)

pub outcome_wide : (s : State) → s.spent ≡ false → 8000000000000 < s.best.squared → refused 33 0 ≡ outcome s
unfolding outcome
outcome_wide s e l = rw (outcome, e, lt-ltb 8000000000000 s.best.squared l)

pub outcome_found : (s : State) → s.spent ≡ false → s.best.squared ≤ 8000000000000 → said 0 s ≡ outcome s
unfolding outcome
outcome_found s e l = rw (outcome, e, le-ltb 8000000000000 s.best.squared l)

-- the kinds of a want as the code has them
pub take_padded : (l : List ℕ) → take (length l) (padded l) ≡ l
unfolding padded
take_padded l = take-append_seam l _

pub few_of : (want : ℕ) → 1 ≤ length (kinds want) → length (kinds want) ≤ 8 → Few (length (kinds want)) (padded (kinds want))
unfolding padded
few_of want some few = record {
  some = some;
  most = few;
  small = λ i l. subst (λ (k : ℕ). k < 64) (sym (get_or-append (kinds want) _ 0 i l)) ((kinds_member want (get_or (kinds want) i 0)).0 (member_of (kinds want) i l)).0;
}

module _ (t : Table) (tree : Tree) (want : ℕ) where
  pub sound_of : AllHold (search_rules t tree want) → Sound t tree want
  sound_of h = record {
    some = h.0 0 (omega arith) (omega arith);
    few = h.1.0 0 (omega arith) (omega arith);
    passes = record { sound = (h.1.1.0, (h.1.1.1.0, tt)); passes = h.1.1.1.1 };
  }

  of_sound : Sound t tree want → AllHold (search_rules t tree want)
  of_sound s = (λ _ _ _. s.some, (λ _ _ _. s.few, (s.passes.sound.0, (s.passes.sound.1.0, s.passes.passes))))

  -- what is known once the want, and all that is looked at, is not refused
  pub sound_want : {v : Verdict} → v ≡ verdict (query_rules want) → v.code ≡ 0 → Passes t tree → Sound t tree want
  sound_want e z p = let h = passed (query_rules want) (check_rules t tree) _ e z in record { some = h.0 0 (omega arith) (omega arith); few = h.1.0 0 (omega arith) (omega arith); passes = p }

  pub sound_all : {v : Verdict} → v ≡ verdict (search_rules t tree want) → v.code ≡ 0 → Sound t tree want
  sound_all e z = sound_of (none_broken (search_rules t tree want) (ap (λ (u : Verdict). u.code) (sym e) ∙ z))

  module _ (allowance : ℕ) where
    -- a rule is broken
    pub searched_fault : {v : Verdict} → v ≡ verdict (search_rules t tree want) → (v.code ≡ 0 → ⊥) → refused v.code v.at ≡ searched t tree want allowance
    unfolding searched
    searched_fault {v} e n =
        ap (λ (u : Verdict). refused u.code u.at) e ∙ rw (searched, ne_eqb (verdict (search_rules t tree want)).code 0 (λ z. n (ap (λ (u : Verdict). u.code) e ∙ z)))

    pub searched_want : {v : Verdict} → v ≡ verdict (query_rules want) → (v.code ≡ 0 → ⊥) → refused v.code v.at ≡ searched t tree want allowance
    searched_want e n = searched_fault (stopped (query_rules want) (check_rules t tree) _ e n) n

    module _ (s : Sound t tree want) where
      -- none
      pub searched_none : begins t tree (kinds want) ≡ false → refused 31 0 ≡ searched t tree want allowance
      unfolding searched
      searched_none b = rw (searched, all_hold (search_rules t tree want) (of_sound s), b)

      -- the walk
      pub searched_walk : begins t tree (kinds want) ≡ true → outcome (state_of t (stands_at t tree (kinds want) allowance)) ≡ searched t tree want allowance
      unfolding searched
      searched_walk b = rw (searched, all_hold (search_rules t tree want) (of_sound s), b)

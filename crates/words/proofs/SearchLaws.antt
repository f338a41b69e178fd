-- A search always gives eight places at least, so its words are thirteen at least.
-- Assumes nothing.
use mathlib.Core.Bool.{Bool, true, false}
use mathlib.Core.List.{List, [], ◌∷◌}
use mathlib.Core.Option.{Option, none, some}
use Prim.Native.Nat.{ℕ, ◌-◌, ◌≤◌, ◌<◌}
use native.Mathlib.Omega.{arith}
use lib.Dec.{lit≤, ltb, eqb}
use lib.ListN.{length, replicate, length-append, length-replicate}
use Rattle.kit.specs.Kit.{kinds, padded}
use Rattle.table.specs.Table.{Table}
use Rattle.tree.specs.Tree.{Tree}
use Rattle.verdict.specs.Rules.{verdict}
use Rattle.verdict.specs.Rules.{Verdict}
use Rattle.closest.specs.Walk.{begins, stands_at}
use Rattle.walk.specs.State.{best_of, state_of}
use Rattle.walk.specs.declared.State.{State}
use Rattle.found.specs.Search.{refused, said, outcome, search_rules, searched}
use Rattle.found.specs.declared.Found.{Found}
use Rattle.words.specs.Words.{flag, found_words}

long_padded : (l : List ℕ) → 8 ≤ length (padded l)
unfolding padded
long_padded l = omega (arith, length-append l (replicate (8 - length l) 0), length-replicate {A = ℕ} (8 - length l) 0)

long_best : (t : Table) (k : Option (List ℕ)) → 8 ≤ length (best_of t k).places
long_best t none = lit≤ tt
long_best t (some g) = long_padded g

long_outcome : (s : State) → 8 ≤ length s.best.places → 8 ≤ length (outcome s).places
unfolding outcome
long_outcome s h = go s.spent (ltb 8000000000000 s.best.squared)
  where
    go : (a b : Bool) → let f : Found = elim a [ true ↦ said 32 s | false ↦ elim b [ true ↦ refused 33 0 | false ↦ said 0 s ] ] in 8 ≤ length f.places
    go true b = h
    go false true = lit≤ tt
    go false false = h

words_room : (f : Found) → 8 ≤ length f.places → (old : List ℕ) → length old < 13 → length old < length (found_words f)
words_room f h old k = omega (arith, length-append f.places (f.squared ∷ f.steps ∷ flag f.known ∷ []))

module _ (t : Table) (tree : Tree) (want allowance : ℕ) where
  long_searched : 8 ≤ length (searched t tree want allowance).places
  unfolding searched
  long_searched = go (eqb v.code 0) (begins t tree (kinds want))
    where
      v : Verdict
      v = verdict (search_rules t tree want)

      s : State
      s = state_of t (stands_at t tree (kinds want) allowance)

      go : (a b : Bool) → let f : Found = elim a [ false ↦ refused v.code v.at | true ↦ elim b [ false ↦ refused 31 0 | true ↦ outcome s ] ] in 8 ≤ length f.places
      go false b = lit≤ tt
      go true false = lit≤ tt
      go true true = long_outcome s (long_best t (stands_at t tree (kinds want) allowance).known)

  pub no_room : (old : List ℕ) → length old < 13 → length old < length (found_words (searched t tree want allowance))
  no_room = words_room (searched t tree want allowance) long_searched

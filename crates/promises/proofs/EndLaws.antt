-- How a search ends that is not refused, in terms of the answer over the table alone.
-- Assumes nothing.
use mathlib.Core.Path.{◌≡◌, refl, sym, ap, ◌∙◌}
use mathlib.Core.Bool.{Bool, true, false}
use mathlib.Core.List.Memᴰ
use mathlib.Core.List.{List, [], ◌∷◌, ◌++◌, Memᴰ}
use mathlib.Core.Logic.{inl, inr}
use mathlib.Core.Option.{Option, none, some}
use Prim.Native.Nat.{ℕ, ◌≤◌, ◌<◌}
use native.Mathlib.Decide.{dec_lt, ℕ_discrete}
use native.Mathlib.Omega.{arith}
use lib.ListN.{length, take}
use Rattle.verdict.specs.Rules.{AllHold, verdict, Verdict}
use Rattle.verdict.proofs.RuleLaws.{none_broken}
use Rattle.kit.specs.Kit.{kinds}
use Rattle.table.specs.Table.{Table}
use Rattle.tree.specs.Tree.{Tree}
use Rattle.walks.specs.Allowance.{stand}
use Rattle.walks.specs.Order.{before}
use Rattle.walks.specs.Walk.{final}
use Rattle.walks.proofs.OrderLaws.{clash, not_true, by_less, by_even, by_le}
use Rattle.closest.specs.Group.{Covers, diameter, better, IsAnswer}
use Rattle.closest.specs.Walk.{whole_walk, begins}
use Rattle.closest.proofs.AnswerLaws.{none_exactly}
use Rattle.walk.specs.State.{state_of}
use Rattle.groups.proofs.EntryLaws.{meets}
use Rattle.found.specs.Search.{search_rules, refused, said, searched}
use Rattle.found.proofs.SearchLaws.{sound_of, searched_fault}
use Rattle.search.proofs.DemandLaws.{gives_none, gives_spent, gives_found}
use Rattle.found.specs.declared.Found.{Found}
use Rattle.promises.specs.Reports.{codes_of}
use Rattle.promises.specs.Answers.{Closest, NoGroup, walk_of, steps_of, known_after, spent, found, Ended, Ends, is_none, is_spent, is_found}
use Rattle.promises.proofs.ReportLaws.{codes, member_le, member_more, member_after}

-- the answer, spelt out
module _ {t : Table} {want : ℕ} {g : List ℕ} where
  pub closest_of : IsAnswer t (kinds want) (some g) → Closest t want g
  closest_of a = record {
    covers = a.0;
    least = λ o c. go o (a.1 o c) (dec_lt (diameter t o) (diameter t g));
    first = λ o c e. sym (by_even (diameter t) before o g e) ∙ a.1 o c;
  }
    where
      go : (o : List ℕ) → better t o g ≡ false → Dec (diameter t o < diameter t g) → diameter t g ≤ diameter t o
      go o e (yes l) = clash (by_less (diameter t) before o g l) e
      go o e (no n) = omega arith

  pub of_closest : Closest t want g → IsAnswer t (kinds want) (some g)
  of_closest c = (c.covers, λ o h. not_true (better t o g) (λ e. go o h e (by_le (diameter t) before o g e)))
    where
      go : (o : List ℕ) → Covers t (kinds want) o → better t o g ≡ true → diameter t o ≤ diameter t g → ⊥
      go o h e l = let same : diameter t o ≡ diameter t g = omega (arith, c.least o h) in clash (sym (by_even (diameter t) before o g same) ∙ e) (c.first o h same)

module _ (t : Table) (tree : Tree) (want : ℕ) where
  -- the walk, where it begins, and where not
  walk_begun : begins t tree (kinds want) ≡ true → whole_walk t tree (kinds want) ≡ walk_of t tree want
  unfolding walk_of
  walk_begun e = rw (walk_of, e)

  walk_not : begins t tree (kinds want) ≡ false → walk_of t tree want ≡ []
  unfolding walk_of
  walk_not e = rw (walk_of, e)

-- spent, as the search has it
spent_said : (t : Table) (k : Option (List ℕ)) (steps : ℕ) → said 32 (state_of t (stand steps true k)) ≡ spent t k steps
spent_said t none steps = refl
spent_said t (some g) steps = refl

spent_code : (t : Table) (k : Option (List ℕ)) (steps : ℕ) → (spent t k steps).code ≡ 32
spent_code t none steps = refl
spent_code t (some g) steps = refl

module _ (t : Table) (tree : Tree) (want allowance : ℕ) where
  abbrev r : Found
  r = searched t tree want allowance

  abbrev v : Verdict
  v = verdict (search_rules t tree want)

  abbrev code : {q : Found} → r ≡ q → r.code ≡ q.code
  code e = ap (λ (q : Found). q.code) e

  -- where every rule holds it ends in one of the three ways
  pub ends : AllHold (search_rules t tree want) → Ends t tree want allowance r
  ends h = go (begins t tree (kinds want)) refl (dec_lt allowance (steps_of t tree want))
    where
      go : (u : Bool) → begins t tree (kinds want) ≡ u → Dec (allowance < steps_of t tree want) → Ends t tree want allowance r
      go false b d =
          let s = sound_of t tree want h in
          is_none ((none_exactly (meets s.passes) (kinds want) s.some).0 b) (ap length (walk_not t tree want b)) (sym (gives_none t tree want allowance h b))
      go true b (yes l) =
          let w = walk_begun t tree want b in
          let e = sym (gives_spent t tree want allowance h b (omega (arith, ap length w))) ∙ spent_said t (final none (take allowance (whole_walk t tree (kinds want)))) allowance in
          is_spent l (e ∙ ap (λ (walk : List (Option (List ℕ))). spent t (final none (take allowance walk)) allowance) w)
      go true b (no n) =
          let w = ap length (walk_begun t tree want b) in
          let f = gives_found t tree want allowance h b (omega (arith, w)) in
          is_found f.0 (closest_of f.1.0) (omega arith) (sym f.1.1 ∙ ap (λ (k : ℕ). found t f.0 k) w)

  pub ended : AllHold (search_rules t tree want) → Ended r.code
  ended h = by (ends h)
    where
      by : Ends t tree want allowance r → Ended r.code
      by (is_none _ _ e) = inr (inl (code e))
      by (is_spent _ e) = inr (inr (code e ∙ spent_code t (known_after t tree want allowance) allowance))
      by (is_found _ _ _ e) = inl (code e)

  abbrev known : List ℕ
  known = 0 ∷ 1 ∷ 2 ∷ 11 ∷ 12 ∷ 21 ∷ 22 ∷ 22 ∷ 23 ∷ 24 ∷ 25 ∷ 26 ∷ []

  rule_codes : Memᴰ v.code known
  unfolding codes_of
  rule_codes = codes (search_rules t tree want)

  small : v.code ≤ 26
  small = member_le known tt rule_codes

  -- a broken rule
  pub fault : (v.code ≡ 0 → ⊥) → r ≡ refused v.code v.at
  fault n = sym (searched_fault t tree want allowance refl n)

  -- so it ends in none of them where a rule is broken
  pub of_ended : Ended r.code → AllHold (search_rules t tree want)
  of_ended = go (ℕ_discrete v.code 0)
    where
      go : Dec (v.code ≡ 0) → Ended r.code → AllHold (search_rules t tree want)
      go (yes z) e = none_broken (search_rules t tree want) z
      go (no n) (inl e) = absurd (omega (arith, code (fault n)))
      go (no n) (inr (inl e)) = absurd (omega (arith, small, code (fault n)))
      go (no n) (inr (inr e)) = absurd (omega (arith, small, code (fault n)))

  -- the numbers that it can report
  pub all_codes : Memᴰ r.code (known ++ 31 ∷ 32 ∷ [])
  all_codes = go (ℕ_discrete v.code 0)
    where
      by : Ended r.code → Memᴰ r.code (known ++ 31 ∷ 32 ∷ [])
      by (inl e) = Memᴰ.head e
      by (inr (inl e)) = member_after known (Memᴰ.head e)
      by (inr (inr e)) = member_after known (Memᴰ.tail (Memᴰ.head e))

      go : Dec (v.code ≡ 0) → Memᴰ r.code (known ++ 31 ∷ 32 ∷ [])
      go (yes z) = by (ended (none_broken (search_rules t tree want) z))
      go (no n) = Memᴰ.cast (code (fault n)) (member_more (31 ∷ 32 ∷ []) rule_codes)

  -- what each of the three numbers says
  pub when_found : r.code ≡ 0 → (g : List ℕ) × (Closest t want g × ((steps_of t tree want ≤ allowance) × (r ≡ found t g (steps_of t tree want))))
  when_found z = go (ends (of_ended (inl z)))
    where
      go : Ends t tree want allowance r → (g : List ℕ) × (Closest t want g × ((steps_of t tree want ≤ allowance) × (r ≡ found t g (steps_of t tree want))))
      go (is_none _ _ e) = absurd (omega (arith, z, code e))
      go (is_spent _ e) = absurd (omega (arith, z, code e, spent_code t (known_after t tree want allowance) allowance))
      go (is_found g c l e) = (g, (c, (l, e)))

  pub when_none : r.code ≡ 31 → NoGroup t want × ((steps_of t tree want ≡ 0) × (r ≡ refused 31 0))
  when_none z = go (ends (of_ended (inr (inl z))))
    where
      go : Ends t tree want allowance r → NoGroup t want × ((steps_of t tree want ≡ 0) × (r ≡ refused 31 0))
      go (is_none n l e) = (n, (l, e))
      go (is_spent _ e) = absurd (omega (arith, z, code e, spent_code t (known_after t tree want allowance) allowance))
      go (is_found _ _ _ e) = absurd (omega (arith, z, code e))

  pub when_spent : r.code ≡ 32 → (allowance < steps_of t tree want) × (r ≡ spent t (known_after t tree want allowance) allowance)
  when_spent z = go (ends (of_ended (inr (inr z))))
    where
      go : Ends t tree want allowance r → (allowance < steps_of t tree want) × (r ≡ spent t (known_after t tree want allowance) allowance)
      go (is_none _ _ e) = absurd (omega (arith, z, code e))
      go (is_spent l e) = (l, e)
      go (is_found _ _ _ e) = absurd (omega (arith, z, code e))

  -- and the other way round
  pub spent_when : AllHold (search_rules t tree want) → allowance < steps_of t tree want → r.code ≡ 32
  spent_when h l = go (ends h)
    where
      go : Ends t tree want allowance r → r.code ≡ 32
      go (is_none _ n _) = absurd (omega arith)
      go (is_spent _ e) = code e ∙ spent_code t (known_after t tree want allowance) allowance
      go (is_found _ _ n _) = absurd (omega arith)

-- What a search answers, over any tree that passes, whoever made it.
-- Assumes nothing.
use mathlib.Core.Path.{◌≡◌, refl, sym, ap, ◌∙◌}
use mathlib.Core.Bool.{Bool, true, false, true≢false}
use mathlib.Core.List.{List, [], ◌∷◌, map}
use mathlib.Core.Logic.{◌↔◌}
use mathlib.Core.Option.{Option, none, some}
use Prim.Native.Nat.{ℕ, suc, ◌≤◌, ◌<◌}
use native.Mathlib.Decide.{dec_lt}
use native.Mathlib.Omega.{arith}
use lib.ListN.{length, take, get_or}
use Rattle.plane.proofs.BoxLaws.{apart_le, point_proper}
use Rattle.kit.specs.Kit.{kinds, padded}
use Rattle.table.specs.Table.{Table, places, box_of, Valid}
use Rattle.table.proofs.TableLaws.{valid_ranged}
use Rattle.tree.specs.Tree.{Tree}
use Rattle.tree.proofs.TreeLaws.{Meets}
use Rattle.verdict.specs.Rules.{AllHold}
use Rattle.walks.specs.Allowance.{Stand, stand}
use Rattle.walks.specs.Walk.{final}
use Rattle.walks.proofs.AllowanceLaws.{within, beyond}
use Rattle.closest.specs.Group.{Covers, farthest, spread, diameter, IsAnswer}
use Rattle.closest.specs.Walk.{whole_walk, begins, stands_at}
use Rattle.closest.proofs.AnswerLaws.{walk_answers, none_exactly}
use Rattle.walk.specs.State.{state_of}
use Rattle.groups.proofs.EntryLaws.{meets}
use Rattle.found.specs.Search.{search_rules, refused, said, outcome, searched}
use Rattle.found.specs.declared.Found.{Found}
use Rattle.found.proofs.SearchLaws.{Sound, sound_of, outcome_spent, outcome_found, searched_none, searched_walk}

-- 33 cannot be met: no group over a sound table is wider
module _ {t : Table} (v : Valid t) where
  far_le : (p : ℕ) → p < places t → (g : List ℕ) → ((i : ℕ) → i < length g → get_or g i 0 < places t) → farthest (box_of t p) (map (box_of t) g) ≤ 8000000000000
  unfolding farthest
  far_le p l [] h = omega arith
  far_le p l (q ∷ g) h =
      omega (arith, apart_le (box_of t p) (box_of t q) (point_proper _ _) (point_proper _ _) (valid_ranged v p l) (valid_ranged v q (h 0 (omega arith))), far_le p l g (λ i b. h (suc i) (omega arith)))

  spread_le : (g : List ℕ) → ((i : ℕ) → i < length g → get_or g i 0 < places t) → spread (map (box_of t) g) ≤ 8000000000000
  unfolding spread
  spread_le [] h = omega arith
  spread_le (q ∷ g) h = omega (arith, far_le q (h 0 (omega arith)) g (λ i b. h (suc i) (omega arith)), spread_le g (λ i b. h (suc i) (omega arith)))

  pub diameter_le : {ks g : List ℕ} → Covers t ks g → diameter t g ≤ 8000000000000
  unfolding diameter
  diameter_le {g = g} c = spread_le g (λ i b. c.place i (omega (arith, c.size)))

-- the answer that names a group
abbrev pub grouped : Table → List ℕ → ℕ → Found
grouped t g steps = record { code = 0; at = 0; places = padded g; squared = diameter t g; steps = steps; known = true }

-- demands 2 and 3, where nothing is refused
module _ (t : Table) (tree : Tree) (want allowance : ℕ) (h : AllHold (search_rules t tree want)) where
  abbrev steps : ℕ
  steps = length (whole_walk t tree (kinds want))

  abbrev Gives : Found → Type 0
  Gives r = r ≡ searched t tree want allowance

  sound : Sound t tree want
  sound = sound_of t tree want h

  met : Meets t tree
  met = meets sound.passes

  -- there is no group
  pub gives_none : begins t tree (kinds want) ≡ false → Gives (refused 31 0)
  gives_none b = searched_none t tree want allowance sound b

  walks : begins t tree (kinds want) ≡ true → {s : Stand (Option (List ℕ))} → s ≡ stands_at t tree (kinds want) allowance → outcome (state_of t s) ≡ searched t tree want allowance
  walks b e = ap (λ (s : Stand (Option (List ℕ))). outcome (state_of t s)) e ∙ searched_walk t tree want allowance sound b

  -- the walk needs more than the allowance: the best known after exactly that many steps is named
  pub gives_spent : begins t tree (kinds want) ≡ true → allowance < steps → Gives (said 32 (state_of t (stand allowance true (final none (take allowance (whole_walk t tree (kinds want)))))))
  gives_spent b l = outcome_spent _ refl ∙ walks b (sym (beyond allowance (whole_walk t tree (kinds want)) none l))

  -- else the answer is given, with the steps of the defined walk
  pub gives_found : begins t tree (kinds want) ≡ true → steps ≤ allowance → (g : List ℕ) × (IsAnswer t (kinds want) (some g) × Gives (grouped t g steps))
  gives_found b l = go (final none (whole_walk t tree (kinds want))) refl (walk_answers met (kinds want) b)
    where
      go : (k : Option (List ℕ)) → final none (whole_walk t tree (kinds want)) ≡ k → IsAnswer t (kinds want) k → (g : List ℕ) × (IsAnswer t (kinds want) (some g) × Gives (grouped t g steps))
      go none e a = absurd (true≢false (sym b ∙ (none_exactly met (kinds want) sound.some).1 a))
      go (some g) e a = (
        g,
        (
          a,
          outcome_found _ refl (diameter_le sound.passes.sound a.0) ∙ walks b (ap (stand steps false) (sym e) ∙ sym (within allowance (whole_walk t tree (kinds want)) none l)),
        ),
      )

  -- and the codes say exactly which of these it is
  code : {r : Found} → Gives r → (searched t tree want allowance).code ≡ r.code
  code e = sym (ap (λ (r : Found). r.code) e)

  pub code_none : ((searched t tree want allowance).code ≡ 31) ↔ ((g : List ℕ) → Covers t (kinds want) g → ⊥)
  code_none = (λ e. go e (begins t tree (kinds want)) refl (dec_lt allowance steps), λ n. code (gives_none ((none_exactly met (kinds want) sound.some).1 n)))
    where
      go : (searched t tree want allowance).code ≡ 31 → (u : Bool) → begins t tree (kinds want) ≡ u → Dec (allowance < steps) → (g : List ℕ) → Covers t (kinds want) g → ⊥
      go e false b d = (none_exactly met (kinds want) sound.some).0 b
      go e true b (yes l) = absurd (omega (arith, e, code (gives_spent b l)))
      go e true b (no l) = absurd (omega (arith, e, code (gives_found b (omega arith)).1.1))

  pub code_spent : ((searched t tree want allowance).code ≡ 32) ↔ ((begins t tree (kinds want) ≡ true) × (allowance < steps))
  code_spent = (λ e. go e (begins t tree (kinds want)) refl (dec_lt allowance steps), λ h. code (gives_spent h.0 h.1))
    where
      go : (searched t tree want allowance).code ≡ 32 → (u : Bool) → begins t tree (kinds want) ≡ u → Dec (allowance < steps) → (begins t tree (kinds want) ≡ true) × (allowance < steps)
      go e false b d = absurd (omega (arith, e, code (gives_none b)))
      go e true b (yes l) = (b, l)
      go e true b (no l) = absurd (omega (arith, e, code (gives_found b (omega arith)).1.1))

  pub code_found : ((searched t tree want allowance).code ≡ 0) ↔ ((begins t tree (kinds want) ≡ true) × (steps ≤ allowance))
  code_found = (λ e. go e (begins t tree (kinds want)) refl (dec_lt allowance steps), λ h. code (gives_found h.0 h.1).1.1)
    where
      go : (searched t tree want allowance).code ≡ 0 → (u : Bool) → begins t tree (kinds want) ≡ u → Dec (allowance < steps) → (begins t tree (kinds want) ≡ true) × (steps ≤ allowance)
      go e false b d = absurd (omega (arith, e, code (gives_none b)))
      go e true b (yes l) = absurd (omega (arith, e, code (gives_spent b l)))
      go e true b (no l) = (b, omega arith)

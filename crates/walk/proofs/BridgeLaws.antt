-- The code's best takes the steps of the defined walk's.
-- Assumes nothing.
use mathlib.Core.Path.{◌≡◌, refl, sym, ap, ◌∙◌}
use mathlib.Core.Bool.{Bool, true, false}
use mathlib.Core.List.{List, [], ◌∷◌, ◌++◌, map}
use mathlib.Core.Option.{Option, none, some}
use Prim.Native.Nat.{ℕ, ◌-◌}
use native.Mathlib.Omega.{arith}
use lib.Dec.{ltb}
use lib.ListN.{length, replicate, length-map}
use Rattle.kit.specs.Kit.{padded}
use Rattle.table.specs.Table.{Table, places}
use Rattle.tree.specs.Tree.{Tree, Thing}
use Rattle.tree.proofs.TreeLaws.{Meets}
use Rattle.members.specs.Best.{improved}
use Rattle.walks.specs.Allowance.{Stand, stand, advance}
use Rattle.walks.specs.Best.{bound_by, improve, best}
use Rattle.walks.specs.Order.{first_by, before}
use Rattle.walks.proofs.AllowanceLaws.{advances}
use Rattle.walks.proofs.CarriedLaws.{Carries, carried, map_stopped}
use Rattle.walks.proofs.OrderLaws.{before_order}
use Rattle.closest.specs.Group.{better, diameter}
use Rattle.closest.specs.Candidate.{number, group_of, scene, too_far}
use Rattle.closest.specs.Walk.{holds, boxes, roots, whole_walk, begins, stands_at}
use Rattle.closest.proofs.CandidateLaws.{group_is}
use Rattle.closest.proofs.ReachLaws.{Fine, closed}
use Rattle.closest.proofs.AnswerLaws.{sound, begun_of, roots_fine}
use Rattle.groups.specs.Leads.{bound_of, kept, walk_best}
use Rattle.walk.specs.State.{best_of, state_of}
use Rattle.walk.specs.declared.State.{State}
use Rattle.members.specs.declared.Best.{Best}

-- zeros behind do not change which of two groups of one size comes first
before_append : (a b z : List ℕ) → length a ≡ length b → before (a ++ z) (b ++ z) ≡ before a b
unfolding before
before_append [] [] z e = before_order.irrefl z
before_append [] (b ∷ l) z e = absurd (omega arith)
before_append (a ∷ k) [] z e = absurd (omega arith)
before_append (a ∷ k) (b ∷ l) z e =
    ap (λ (r : Bool). elim (ltb a b) as (λ _. Bool) [ true ↦ true | false ↦ elim (ltb b a) [ true ↦ false | false ↦ r ] ]) (before_append k l z (omega arith))

before_padded : (a b : List ℕ) → length a ≡ length b → before (padded a) (padded b) ≡ before a b
unfolding padded
before_padded a b e = ap (λ (n : ℕ). before (a ++ replicate (8 - length a) 0) (b ++ replicate (8 - n) 0)) (sym e) ∙ before_append a b (replicate (8 - length a) 0) e

-- what is known is a group of n places, if it is one
abbrev Sized : ℕ → Option (List ℕ) → Type 0
Sized n none = Unit {0}
Sized n (some g) = length g ≡ n

sized : {n l : ℕ} → n ≡ l → (k : Option (List ℕ)) → Sized n k → Sized l k
sized e none o = tt
sized e (some g) o = o ∙ e

module _ (t : Table) where
  bounds : (k : Option (List ℕ)) → bound_of (best_of t k).known (best_of t k).squared ≡ bound_by (diameter t) k
  bounds none = refl
  bounds (some g) = refl

  learns : (k : Option (List ℕ)) (g : List ℕ) → Sized (length g) k → improved (padded g) (diameter t g) (best_of t k) ≡ best_of t (improve (better t) k g)
  unfolding improved improve first_by
  learns none g o = refl
  learns (some b) g o =
      ap (λ (w : Bool). choice (ltb (diameter t g) (diameter t b)) (ltb (diameter t b) (diameter t g)) w) (before_padded g b (sym o))
      ∙ go (ltb (diameter t g) (diameter t b)) (ltb (diameter t b) (diameter t g)) (before g b)
    where
      choice : Bool → Bool → Bool → Best
      choice u v w = elim u [ true ↦ best_of t (some g) | false ↦ elim v [ true ↦ best_of t (some b) | false ↦ elim w [ true ↦ best_of t (some g) | false ↦ best_of t (some b) ] ] ]

      go : (u v w : Bool) → choice u v w ≡ best_of t (elim (elim u as (λ _. Bool) [ true ↦ true | false ↦ elim v [ true ↦ false | false ↦ w ] ]) as (λ _. Option (List ℕ)) [ true ↦ some g | false ↦ some b ])
      go true v w = refl
      go false true w = refl
      go false false true = refl
      go false false false = refl

  stays_sized : (n : ℕ) (k : Option (List ℕ)) (g : List ℕ) → length g ≡ n → Sized n k → Sized n (improve (better t) k g)
  unfolding improve
  stays_sized n none g e o = e
  stays_sized n (some b) g e o = go (better t g b)
    where
      go : (u : Bool) → Sized n (elim u as (λ _. Option (List ℕ)) [ true ↦ some g | false ↦ some b ])
      go true = e
      go false = o

module _ {t : Table} {tree : Tree} (m : Meets t tree) (kinds : List ℕ) where
  carries : Carries (scene tree.shape (holds t tree) kinds) (best (better t) (diameter t)) (kept t) (best_of t) (Fine (places t) tree.shape (holds t tree) kinds) (Sized (length kinds))
  carries = record {
    closed = closed (sound m) kinds;
    bounds = λ k _. bounds t k;
    learns = λ c k g fine e o. learns t k g (sized (sym (size c g fine e)) k o);
    ok = λ c k g fine e o. stays_sized t (length kinds) k g (size c g fine e) o;
  }
    where
      size : (c : List Thing) (g : List ℕ) → Fine (places t) tree.shape (holds t tree) kinds c → group_of tree.shape c ≡ some g → length g ≡ length kinds
      size c g fine e = ap length (group_is tree.shape c e).1 ∙ length-map c number ∙ fine.size

  module _ (e : begins t tree kinds ≡ true) where
    whole : walk_best t tree kinds (roots kinds) (best_of t none) ≡ map (best_of t) (whole_walk t tree kinds)
    whole = carried carries (too_far (boxes t tree) kinds) _ (roots kinds) none (roots_fine m kinds (begun_of kinds e)) tt

    stated : Stand Best → State
    stated w = record { steps = w.steps; spent = w.spent; best = w.known }

    pub stood : (a : ℕ) (w : Stand Best) → w ≡ advance a (walk_best t tree kinds (roots kinds) (best_of t none)) (stand 0 false (best_of t none)) → record { steps = w.steps; spent = w.spent; best = w.known } ≡ state_of t (stands_at t tree kinds a)
    unfolding stated
    stood a w q = ap stated (q ∙ ap (λ (v : List Best). advance a v (stand 0 false (best_of t none))) whole ∙ advances a _ (best_of t none) ∙ map_stopped (best_of t) a (whole_walk t tree kinds) none)

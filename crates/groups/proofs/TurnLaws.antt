-- What is left to do once the candidate of an entry was taken, by its cases.
-- Assumes nothing.
use mathlib.Core.Path.{◌≡◌, refl, sym, ◌∙◌}
use mathlib.Core.Bool.{Bool, true, false}
use mathlib.Core.List.{List, [], ◌∷◌, map}
use mathlib.Core.Option.{Option, none, some}
use Prim.Native.Nat.{ℕ, suc, ◌+◌, ◌≤◌, ◌<◌}
use native.Mathlib.Omega.{arith}
use lib.ListN.{length, get_or, drop, set}
use borrow.Author.Tests.{lt-ltb, le-ltb, eq-eqb, ne_eqb}
use Rattle.kit.specs.Kit.{padded}
use Rattle.table.specs.Table.{Table}
use Rattle.tree.specs.Tree.{Tree, Shape, Thing, node, level, count_of}
use Rattle.members.specs.Best.{improved}
use Rattle.walks.specs.Allowance.{Stand, stand, step, advance}
use Rattle.walks.specs.Walk.{Scene, Memory, walk, dropped}
use Rattle.walks.proofs.WalkLaws.{at_drop, at_group, at_open}
use Rattle.closest.specs.Group.{spread, diameter}
use Rattle.closest.specs.Candidate.{number, member, topmost, group_of, entry, entries_of, scene, boxes_in, too_far}
use Rattle.closest.specs.Walk.{holds, boxes}
use Rattle.groups.specs.Leads.{Near, kept, walk_best, leads}
use Rattle.members.specs.declared.Best.{Best}
use Rattle.groups.proofs.AheadLaws.{stays}
use Rattle.groups.proofs.StepLaws.{turn_spent, walk_open, again_held}

-- ---- steps against an allowance

module _ {K : Type 0} (a : ℕ) (w : Stand K) (going : w.spent ≡ false) where
  counted : (k : K) → w.steps < a → step a k w ≡ stand (w.steps + 1) false k
  unfolding step
  counted k h = rw (step, going, lt-ltb w.steps a h)

  over : (l : List K) → 0 < length l → a ≤ w.steps → advance a l w ≡ stand w.steps true w.known
  unfolding advance step
  over [] s h = absurd (omega arith)
  over (k ∷ l) s h = rw (step, going, le-ltb w.steps a h) (stays a l (stand w.steps true w.known) refl)

-- the walk of a candidate has at least its own step
some_step : {C G K : Type 0} (s : Scene C G) (m : Memory G K) (far : C → ℕ → Bool) (fuel : ℕ) (c : C) (k : K) → 0 < length (walk s m far (suc fuel) c k)
some_step {G = G} s m far fuel c k = go (dropped s m far c k) refl (s.group c) refl
  where
    go : (u : Bool) → dropped s m far c k ≡ u → (g : Option G) → s.group c ≡ g → 0 < length (walk s m far (suc fuel) c k)
    go true e g h = rw (at_drop s m far fuel c k e) (omega arith)
    go false e (some g) h = rw (at_group s m far fuel c k e h) (omega arith)
    go false e none h = rw (at_open s m far fuel c k e h) (omega arith)

-- ---- what a candidate is

-- by its spread a candidate is dropped, or not
module _ (t : Table) (w : Tree) (kinds : List ℕ) (c : List Thing) (b : Best) where
  abbrev Drops : Bool → Type 0
  Drops u = dropped (scene w.shape (holds t w) kinds) (kept t) (too_far (boxes t w) kinds) c b ≡ u

  drops : b.known ≡ true → b.squared < spread (boxes_in (boxes t w) kinds c) → Drops true
  unfolding dropped too_far
  drops k h = rw (dropped, k, too_far, lt-ltb b.squared (spread (boxes_in (boxes t w) kinds c)) h)

  stays_in : Near b (spread (boxes_in (boxes t w) kinds c)) → Drops false
  unfolding dropped too_far
  stays_in h = go b.known refl
    where
      go : (u : Bool) → b.known ≡ u → Drops false
      go true p = rw (dropped, p, too_far, le-ltb b.squared (spread (boxes_in (boxes t w) kinds c)) (h p))
      go false p = rw (dropped, p)

-- it is a group if its topmost member is a place
pub group_of_lem : (s : Shape) (c : List Thing) → level s (member c (topmost s c)) ≡ 0 → group_of s c ≡ some (map number c)
unfolding group_of
group_of_lem s c e = rw (group_of, eq-eqb _ 0 e)

pub no_group : (s : Shape) (c : List Thing) → (level s (member c (topmost s c)) ≡ 0 → ⊥) → group_of s c ≡ none
unfolding group_of
no_group s c e = rw (group_of, ne_eqb _ 0 e)

-- ---- a candidate, from where the walk stands

module _ (t : Table) (tree : Tree) (kinds : List ℕ) (a : ℕ) (c : List Thing) (steps : ℕ) (best : Best) where
  pub taken_spent : a ≤ steps → advance a (walk_best t tree kinds c best) (stand steps false best) ≡ stand steps true best
  taken_spent h = over a (stand steps false best) refl _ (some_step _ _ _ _ _ _) h

  pub taken_open : steps < a → Near best (spread (boxes_in (boxes t tree) kinds c)) → group_of tree.shape c ≡ none →
      advance a (walk_best t tree kinds c best) (stand steps false best) ≡ leads t tree kinds a c (topmost tree.shape c) (entries_of tree.shape (member c (topmost tree.shape c))) (stand (steps + 1) false best)
  taken_open room near e =
      walk_open t tree kinds a c (stand steps false best) (stand (steps + 1) false best) (stays_in t tree kinds c best near) e (sym (counted a (stand steps false best) refl best room)) refl

-- ---- an entry that holds the kind

module _ (t : Table) (tree : Tree) (kinds : List ℕ) (a : ℕ) (c : List Thing) (i n k : ℕ) (b : k < count_of tree.shape n) (held : holds t tree (get_or kinds i 0) (entry tree.shape n k) ≡ true)
    (inside : i < length c) (lower : level tree.shape (member c i) ≡ suc (level tree.shape (entry tree.shape n k))) (steps : ℕ) (best : Best) where
  -- the candidate with the entry for the member
  abbrev pub next : List Thing
  next = set c i (entry tree.shape n k)

  abbrev pub leading : ℕ → Stand Best → Stand Best
  leading from w = leads t tree kinds a c i (drop from (entries_of tree.shape (node n))) w

  again : (v : Stand Best) → v ≡ advance a (walk_best t tree kinds next best) (stand steps false best) → leading k (stand steps false best) ≡ leading (k + 1) v
  again v e = again_held t tree kinds a c i n k (stand steps false best) v b held inside lower e

  pub at_spent : a ≤ steps → leading k (stand steps false best) ≡ stand steps true best
  at_spent h = again (stand steps true best) (sym (taken_spent t tree kinds a next steps best h)) ∙ turn_spent t tree kinds a c i _ (stand steps true best) refl

  module _ (room : steps < a) where
    pub at_far : best.known ≡ true → best.squared < spread (boxes_in (boxes t tree) kinds next) → leading k (stand steps false best) ≡ leading (k + 1) (stand (steps + 1) false best)
    unfolding advance
    at_far u h = again _ (rw (at_drop _ _ _ _ _ _ (drops t tree kinds next best u h)) (sym (counted a (stand steps false best) refl best room)))

    module _ (near : Near best (spread (boxes_in (boxes t tree) kinds next))) where
      pub at_whole : {g : List ℕ} → group_of tree.shape next ≡ some g → leading k (stand steps false best) ≡ leading (k + 1) (stand (steps + 1) false (improved (padded g) (diameter t g) best))
      unfolding advance
      at_whole {g} e = again _ (rw (at_group _ _ _ _ _ _ (stays_in t tree kinds next best near) e) (sym (counted a (stand steps false best) refl (improved (padded g) (diameter t g) best) room)))

      pub at_more : group_of tree.shape next ≡ none → (v : Stand Best) →
          v ≡ leads t tree kinds a next (topmost tree.shape next) (entries_of tree.shape (member next (topmost tree.shape next))) (stand (steps + 1) false best) → leading k (stand steps false best) ≡ leading (k + 1) v
      at_more e v q = again v (q ∙ sym (taken_open t tree kinds a next steps best room near e))

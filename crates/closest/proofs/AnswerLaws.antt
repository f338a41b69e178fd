-- The walk over a tree that meets the rules ends with the answer, and begins exactly where there is one.
-- Assumes nothing.
use mathlib.Core.Path.{◌≡◌, refl, sym, ap, ◌∙◌}
use mathlib.Core.Bool.{Bool, true, false}
use mathlib.Core.List.{List, [], ◌∷◌, Memᴰ}
use mathlib.Core.Option.{Option, none}
use mathlib.Core.Logic.{◌↔◌}
use Prim.Native.Nat.{ℕ, zero, suc, ◌≤◌, ◌<◌}
use native.Mathlib.Omega.{arith}
use lib.Dec.{ltb}
use lib.ListN.{length, get_or, length-replicate, get_or-replicate}
use borrow.Author.Tests.{ltb-true, lt-ltb}
use Rattle.kit.specs.Kit.{held, all_held}
use Rattle.kit.proofs.KindLaws.{all_held_lem, held_all}
use Rattle.order.proofs.SortLaws.{member_at}
use Rattle.table.specs.Table.{Table, places}
use Rattle.table.specs.Table as table
use Rattle.tree.specs.Tree.{Shape, Tree, Thing, place, node, named, level, kit_of, Below, through}
use Rattle.tree.proofs.TreeLaws.{Meets, linked, place_below_root, entry_level, below_within, node_holds, entry_holds, above_holds}
use Rattle.walks.specs.Walk.{final}
use Rattle.walks.specs.Order.{Order, before}
use Rattle.walks.specs.Best.{best}
use Rattle.walks.proofs.WalkLaws.{Drops, exact}
use Rattle.walks.proofs.OrderLaws.{clash, not_true, by_le, by_order, before_order}
use Rattle.walks.proofs.BestLaws.{best_of, best_unique, best_lawful}
use Rattle.walks.proofs.AllowanceLaws.{within, spent_is}
use Rattle.closest.specs.Group.{Covers, diameter, better, IsAnswer}
use Rattle.closest.specs.Candidate.{Good, member, scene, too_far}
use Rattle.closest.specs.Walk.{holds, boxes, roots, whole_walk, begins, stands_at}
use Rattle.closest.proofs.EntryLaws.{named_at, entry_good, good_below}
use Rattle.closest.proofs.ReachLaws.{Sound, Fine, Under, closed, reached, reaches}
use Rattle.closest.proofs.DropLaws.{Around, safe}

-- the comparison of groups is a strict total order, so there is one answer
pub better_order : (t : Table) → Order (better t)
better_order t = by_order (diameter t) before before_order

pub answer_unique : (t : Table) (kinds : List ℕ) (k l : Option (List ℕ)) → IsAnswer t kinds k → IsAnswer t kinds l → k ≡ l
answer_unique t kinds = best_unique (better_order t) (Covers t kinds)

pub member_of : (l : List ℕ) (i : ℕ) → i < length l → Memᴰ (get_or l i 0) l
member_of [] i h = absurd (omega arith)
member_of (a ∷ l) zero h = Memᴰ.head refl
member_of (a ∷ l) (suc i) h = Memᴰ.tail (member_of l i (omega arith))

-- where the walk begins there is a node, and the root holds every kind
pub record Begun (t : Table) (tree : Tree) (kinds : List ℕ) : Type 0 where
  pub some : 0 < tree.shape.nodes
  pub all : (i : ℕ) → i < length kinds → holds t tree (get_or kinds i 0) (node 0) ≡ true

module _ {t : Table} {tree : Tree} (kinds : List ℕ) where
  pub begun_of : begins t tree kinds ≡ true → Begun t tree kinds
  unfolding begins
  begun_of e = go (ltb 0 tree.shape.nodes) refl e
    where
      go : (u : Bool) → ltb 0 tree.shape.nodes ≡ u → (elim u [ true ↦ all_held (kit_of t tree.kits (node 0)) kinds | false ↦ false ]) ≡ true → Begun t tree kinds
      go true h p = record { some = ltb-true _ _ h; all = λ i l. all_held_lem _ kinds p (get_or kinds i 0) (member_of kinds i l) }
      go false h p = clash p refl

  of_begun : Begun t tree kinds → begins t tree kinds ≡ true
  unfolding begins
  of_begun b =
      rw (begins, lt-ltb 0 tree.shape.nodes b.some) (held_all _ kinds (λ k h. let r = member_at h in rw (← r.1.1) (b.all r.0 r.1.0)))

-- what holds at 0 and one further on holds below
from_zero : (P : ℕ → Type 0) {n : ℕ} → P 0 → ((i : ℕ) → i < n → P (suc i)) → (i : ℕ) → i < suc n → P i
from_zero P z more zero l = z
from_zero P z more (suc i) l = more i (omega arith)

root_some : {s : Shape} {q : ℕ} → Below s (place q) (node 0) → 0 < s.nodes
root_some (through n i t b) = t.node

module _ {t : Table} {tree : Tree} (m : Meets t tree) where
  pub sound : Sound (places t) tree.shape (holds t tree)
  sound = record { linked = linked m; rises = λ k n i. node_holds m k i n }

  around : Around t tree.shape (holds t tree) (boxes t tree)
  around k q x b h = below_within m b

  -- a kind that a thing holds, some place below it holds
  found : (n k : ℕ) (x : Thing) → Good (places t) tree.shape x → level tree.shape x < n → holds t tree k x ≡ true → (q : ℕ) × (q < places t) × (held (table.kit_of t q) k ≡ true)
  found zero k x g l h = absurd (omega arith)
  found (suc n) k (place q) g l h = (q, g, h)
  found (suc n) k (node j) g l h =
      let e = entry_holds m k j g h in
      found n k (named tree.shape e.i) (entry_good (linked m) (named_at j e.i e.stands)) (omega (arith, entry_level m e.i j e.stands)) e.has

  -- so where the walk begins some group covers the kinds, and the other way round
  covered : (kinds : List ℕ) → Begun t tree kinds → (g : List ℕ) × Covers t kinds g
  covered [] b = ([], record { size = refl; place = λ i l. absurd (omega arith); holds = λ i l. absurd (omega arith) })
  covered (k ∷ kinds) b =
      let q = found (suc (level tree.shape (node 0))) k (node 0) b.some (omega arith) (b.all 0 (omega arith)) in
      let r = covered kinds (record { some = b.some; all = λ i l. b.all (suc i) (omega arith) }) in
      let g = q.0 ∷ r.0 in (
        g,
        record {
          size = ap suc r.1.size;
          place = from_zero (λ i. get_or g i 0 < places t) q.1 r.1.place;
          holds = from_zero (λ i. held (table.kit_of t (get_or g i 0)) (get_or (k ∷ kinds) i 0) ≡ true) q.2 r.1.holds;
        },
      )

  begun_covers : (kinds : List ℕ) {g : List ℕ} → 0 < length kinds → Covers t kinds g → Begun t tree kinds
  begun_covers kinds {g} l c = record {
    some = root_some (place_below_root m (get_or g 0 0) (c.place 0 l));
    all = λ i b. above_holds m (get_or kinds i 0) (place_below_root m (get_or g i 0) (c.place i b)) (c.holds i b);
  }

module _ {t : Table} {tree : Tree} (m : Meets t tree) (kinds : List ℕ) where
  -- ---- the candidate that is the root for each kind

  root_at : (i : ℕ) → i < length (roots kinds) → member (roots kinds) i ≡ node 0
  root_at i l = get_or-replicate (length kinds) i (node 0) (place 0) (omega (arith, length-replicate (length kinds) (node 0)))

  pub roots_fine : Begun t tree kinds → Fine (places t) tree.shape (holds t tree) kinds (roots kinds)
  roots_fine b =
      let n = length-replicate (length kinds) (node 0) in
      record { size = n; good = λ i l. rw (root_at i l) b.some; holding = λ i l. rw (root_at i l) (b.all i (omega arith)) }

  -- below it are the groups that cover the kinds
  covers_of : {g : List ℕ} → Begun t tree kinds → Under tree.shape (holds t tree) kinds (roots kinds) g → Covers t kinds g
  covers_of b u =
      let n = length-replicate (length kinds) (node 0) in record {
        size = u.size ∙ n;
        place = λ i l. let r : i < length (roots kinds) = omega arith in good_below (linked m) {x = node 0} b.some (rw (root_at i r) at (u.below i r));
        holds = λ i l. u.holding i (omega arith);
      }

  of_covers : {g : List ℕ} → Covers t kinds g → Under tree.shape (holds t tree) kinds (roots kinds) g
  of_covers {g} c =
      let n = length-replicate (length kinds) (node 0) in record {
        size = c.size ∙ sym n;
        below = λ i l. rw (root_at i l) (place_below_root m (get_or g i 0) (c.place i (omega arith)));
        holding = λ i l. c.holds i (omega arith);
      }

  -- ---- the answer

  drops : Drops (scene tree.shape (holds t tree) kinds) (best (better t) (diameter t)) (diameter t) (Fine (places t) tree.shape (holds t tree) kinds) (λ k. Unit {0}) (too_far (boxes t tree) kinds)
  drops = record { law = best_lawful (better t) (diameter t) (by_le (diameter t) before); closed = closed (sound m) kinds; safe = safe (sound m) kinds t (boxes t tree) (around m) }

  -- a walk that begins ends with the answer
  pub walk_answers : begins t tree kinds ≡ true → IsAnswer t kinds (final none (whole_walk t tree kinds))
  walk_answers e =
      let b = begun_of kinds e in
      let f = roots_fine b in
      rw (exact drops _ (roots kinds) none f tt)
      (best_of (better_order t) (Covers t kinds) _ (λ g i. covers_of b (reached (sound m) kinds _ f i))
      (λ g c. reaches (sound m) kinds _ f (omega arith) (of_covers c)))

  -- there is nothing to walk exactly where there is no group
  pub none_exactly : 0 < length kinds → (begins t tree kinds ≡ false) ↔ ((g : List ℕ) → Covers t kinds g → ⊥)
  none_exactly l = (
    λ e g c. clash (of_begun kinds (begun_covers m kinds l c)) e,
    λ h. not_true (begins t tree kinds) (λ e. let g = covered m kinds (begun_of kinds e) in h g.0 g.1),
  )

  -- within the allowance the answer is known at the end
  pub within_answers : begins t tree kinds ≡ true → (allowance : ℕ) → length (whole_walk t tree kinds) ≤ allowance → IsAnswer t kinds (stands_at t tree kinds allowance).known
  within_answers e allowance l = rw (within allowance (whole_walk t tree kinds) none l) (walk_answers e)

-- and it is spent exactly where the walk is longer
pub spent_exactly : (t : Table) (tree : Tree) (kinds : List ℕ) (allowance : ℕ) → ((stands_at t tree kinds allowance).spent ≡ true) ↔ (allowance < length (whole_walk t tree kinds))
spent_exactly t tree kinds allowance = spent_is allowance (whole_walk t tree kinds) none

-- any two trees that meet the rules over one table give the same
module _ {t : Table} {tree tree' : Tree} (m : Meets t tree) (m' : Meets t tree') (kinds : List ℕ) (l : 0 < length kinds) (e : begins t tree kinds ≡ true) where
  pub same_begins : begins t tree' kinds ≡ true
  same_begins = let g = covered m kinds (begun_of kinds e) in of_begun kinds (begun_covers m' kinds l g.1)

  pub same_answer : final none (whole_walk t tree kinds) ≡ final none (whole_walk t tree' kinds)
  same_answer = answer_unique t kinds _ _ (walk_answers m kinds e) (walk_answers m' kinds same_begins)

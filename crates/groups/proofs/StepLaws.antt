-- What one turn of the walk's loop, and its ends, do.
-- Assumes nothing.
use mathlib.Core.Path.{◌≡◌, sym, ap, ◌∙◌}
use mathlib.Core.Bool.{true, false}
use mathlib.Core.List.{List, [], ◌∷◌}
use mathlib.Core.Option.{none}
use Prim.Native.Nat.{ℕ, suc, ◌+◌, ◌≤◌, ◌<◌}
use native.Mathlib.Numerals.{add-one}
use native.Mathlib.Omega.{arith}
use lib.ListN.{length, get_or, drop, set, drop_of_length-le}
use lib.Seq.{drop-cons}
use Rattle.order.specs.Tab.{tab}
use Rattle.order.proofs.TabLaws.{length_tab, getD_tab}
use Rattle.table.specs.Table.{Table}
use Rattle.tree.specs.Tree.{Shape, Tree, count_of, Thing, place, node, level}
use Rattle.walks.specs.Walk.{walk, chain, dropped}
use Rattle.walks.specs.Allowance.{Stand, step, advance}
use Rattle.walks.proofs.WalkLaws.{at_open}
use Rattle.closest.specs.Candidate.{member, entry, entries_of, topmost, levels, group_of, replaced, opened, scene, too_far}
use Rattle.closest.specs.Walk.{holds, boxes}
use Rattle.closest.proofs.CandidateLaws.{levels_set}
use Rattle.groups.specs.Leads.{kept, walk_best, ahead, leads}
use Rattle.members.specs.declared.Best.{Best}
use Rattle.groups.proofs.AheadLaws.{ahead_none, ahead_more, step_known, stays}

-- a member is replaced by a thing one level lower
pub one_lower : (s : Shape) (c : List Thing) (i : ℕ) (y : Thing) → i < length c → level s (member c i) ≡ suc (level s y) → levels s c ≡ suc (levels s (set c i y))
one_lower s c i y h q = omega (arith, levels_set s c i y h)

module _ (t : Table) (tree : Tree) (kinds : List ℕ) (a : ℕ) where
  -- the candidates below c are walked with one level less
  abbrev under : List Thing → List Thing → Best → List Best
  under c = λ d b. walk (scene tree.shape (holds t tree) kinds) (kept t) (too_far (boxes t tree) kinds) (levels tree.shape c) d b

  abbrev leading : List Thing → ℕ → List Thing → Stand Best → Stand Best
  leading c i ys w = leads t tree kinds a c i ys w

  turn_held : (c : List Thing) (i : ℕ) (y : Thing) (ys : List Thing) (w v : Stand Best) → holds t tree (get_or kinds i 0) y ≡ true → i < length c → level tree.shape (member c i) ≡ suc (level tree.shape y) → v ≡ advance a (walk_best t tree kinds (set c i y) w.known) w → leading c i (y ∷ ys) w ≡ leading c i ys v
  unfolding leads replaced
  turn_held c i y ys w v h b q e = rw (replaced, h) (ahead_more a (under c) (set c i y) _ w ∙ ap (ahead a (under c) _) (rw (← one_lower tree.shape c i y b q) at (sym e)))

  turn_not : (c : List Thing) (i : ℕ) (y : Thing) (ys : List Thing) (w : Stand Best) → holds t tree (get_or kinds i 0) y ≡ false → leading c i (y ∷ ys) w ≡ leading c i ys w
  unfolding leads replaced
  turn_not c i y ys w h = rw (replaced, h)

  turn_none : (c : List Thing) (i : ℕ) (w : Stand Best) → leading c i [] w ≡ w
  unfolding leads replaced
  turn_none c i w = ahead_none a (under c) w

  -- once spent, nothing changes
  pub turn_spent : (c : List Thing) (i : ℕ) (ys : List Thing) (w : Stand Best) → w.spent ≡ true → leading c i ys w ≡ w
  unfolding leads
  turn_spent c i ys w e = stays a _ w e

  -- a candidate that is neither dropped nor a group leads over its topmost member's entries
  pub walk_open : (c : List Thing) (w v : Stand Best) → dropped (scene tree.shape (holds t tree) kinds) (kept t) (too_far (boxes t tree) kinds) c w.known ≡ false → group_of tree.shape c ≡ none → v ≡ step a w.known w → v.spent ≡ false →
      advance a (walk_best t tree kinds c w.known) w ≡ leading c (topmost tree.shape c) (entries_of tree.shape (member c (topmost tree.shape c))) v
  unfolding leads advance opened
  walk_open c w v d g e f =
      ap (λ (l : List Best). advance a l w) (at_open (scene tree.shape (holds t tree) kinds) (kept t) (too_far (boxes t tree) kinds) (levels tree.shape c) c w.known d g)
      ∙ ap (advance a (chain (under c) (opened tree.shape (holds t tree) kinds c) w.known)) (sym e)
      ∙ ap (λ (k : Best). advance a (chain (under c) (opened tree.shape (holds t tree) kinds c) k) v) (sym known)
    where
      known : v.known ≡ w.known
      known = rw e (step_known a w.known w (rw e at f))

  -- the same over the run of node n, from its entry k on
  module _ (c : List Thing) (i n k : ℕ) where
    next : k < count_of tree.shape n → drop k (entries_of tree.shape (node n)) ≡ entry tree.shape n k ∷ drop (k + 1) (entries_of tree.shape (node n))
    unfolding entries_of
    next b =
        rw (add-one, ← getD_tab (entry tree.shape n) (count_of tree.shape n) k (place 0) b)
        (drop-cons (tab (entry tree.shape n) (count_of tree.shape n)) k (place 0) (rw (length_tab (entry tree.shape n) (count_of tree.shape n)) b))

    pub again_held : (w v : Stand Best) → k < count_of tree.shape n → holds t tree (get_or kinds i 0) (entry tree.shape n k) ≡ true → i < length c → level tree.shape (member c i) ≡ suc (level tree.shape (entry tree.shape n k)) →
        v ≡ advance a (walk_best t tree kinds (set c i (entry tree.shape n k)) w.known) w → leading c i (drop k (entries_of tree.shape (node n))) w ≡ leading c i (drop (k + 1) (entries_of tree.shape (node n))) v
    again_held w v b h l q e = ap (λ (ys : List Thing). leading c i ys w) (next b) ∙ turn_held c i _ _ w v h l q e

    pub again_not : (w : Stand Best) → k < count_of tree.shape n → holds t tree (get_or kinds i 0) (entry tree.shape n k) ≡ false → leading c i (drop k (entries_of tree.shape (node n))) w ≡ leading c i (drop (k + 1) (entries_of tree.shape (node n))) w
    again_not w b h = ap (λ (ys : List Thing). leading c i ys w) (next b) ∙ turn_not c i _ _ w h

    pub ended : (w : Stand Best) → count_of tree.shape n ≤ k → leading c i (drop k (entries_of tree.shape (node n))) w ≡ w
    unfolding entries_of
    ended w b =
        let past : length (tab (entry tree.shape n) (count_of tree.shape n)) ≤ k = rw (length_tab (entry tree.shape n) (count_of tree.shape n)) b in
        ap (λ (ys : List Thing). leading c i ys w) (drop_of_length-le (tab (entry tree.shape n) (count_of tree.shape n)) past) ∙ turn_none c i w

-- Laws of lists of boxes: all but one, all in range, and how far they are spread.
-- Assumes nothing.
use mathlib.Core.Path.{◌≡◌, refl, sym, ap, subst, ◌∙◌}
use mathlib.Core.Bool.{true, false}
use mathlib.Core.List.{List, [], ◌∷◌}
use Prim.Native.Nat.{ℕ, zero, suc, ◌+◌, ◌-◌, ◌≤◌, ◌<◌, max}
use native.Mathlib.Nat.{not-suc-le-zero, le_of_suc-le-suc, max-zero}
use native.Mathlib.Numerals.{add-one}
use native.Mathlib.Decide.{dec_lt}
use native.Mathlib.Omega.{arith}
use lib.Dec.{ltb}
use lib.IntN.{pos}
use lib.ListN.{length, get_or, take, drop, set, drop_of_length-le}
use lib.Seq.{length-take-le, get_or-take, drop-cons}
use borrow.Author.Tests.{lt-ltb, le-ltb}
use Rattle.plane.specs.Plane.{apart, Ranged, point}
use Rattle.plane.specs.declared.Box.{Box}
use Rattle.plane.proofs.BoxLaws.{apart_comm}
use Rattle.order.proofs.TabLaws.{length_tab, getD_tab}
use Rattle.tree.specs.Tree.{Sides, box_at}
use Rattle.closest.specs.Group.{farthest, spread}
use Rattle.members.specs.Boxes.{boxes_at, without, skip, AllRanged}

-- a box that is never read
abbrev nowhere : Box
nowhere = point (pos 0) (pos 0)

-- ---- a list without one element

skip_below : (i k : ℕ) → k < i → skip i k ≡ k
skip_below i k h = rw (lt-ltb k i h)

skip_above : (i k : ℕ) → i ≤ k → skip i k ≡ suc k
skip_above i k h = rw (le-ltb k i h) (add-one k)

skip_suc : (i k : ℕ) → skip (suc i) (suc k) ≡ suc (skip i k)
skip_suc i k = go (dec_lt k i)
  where
    go : Dec (k < i) → skip (suc i) (suc k) ≡ suc (skip i k)
    go (yes h) = rw (skip_below i k h, skip_below (suc i) (suc k) (omega arith))
    go (no h) = rw (skip_above i k (omega arith), skip_above (suc i) (suc k) (omega arith))

pub skip_le : (i k : ℕ) → skip i k ≤ k + 1
skip_le i k = go (dec_lt k i)
  where
    go : Dec (k < i) → skip i k ≤ k + 1
    go (yes h) = rw (skip_below i k h) (omega arith)
    go (no h) = rw (skip_above i k (omega arith)) (omega arith)

module _ {A : Type 0} where
  length_without : (l : List A) (i : ℕ) → i < length l → suc (length (without i l)) ≡ length l
  unfolding without
  length_without [] i h = absurd (not-suc-le-zero h)
  length_without (a ∷ l) zero h = refl
  length_without (a ∷ l) (suc i) h = ap suc (length_without l i (le_of_suc-le-suc h))

  getD_without : (l : List A) (i k : ℕ) (d : A) → get_or (without i l) k d ≡ get_or l (skip i k) d
  unfolding without
  getD_without [] i k d = refl
  getD_without (a ∷ l) zero k d = rw (skip_above 0 k (omega arith))
  getD_without (a ∷ l) (suc i) zero d = rw (skip_below (suc i) 0 (omega arith))
  getD_without (a ∷ l) (suc i) (suc k) d = rw (skip_suc i k) (getD_without l i k d)

-- ---- boxes in range

ranged_at : (l : List Box) (i : ℕ) (d : Box) → AllRanged l → i < length l → Ranged (get_or l i d)
ranged_at [] i d r h = absurd (not-suc-le-zero h)
ranged_at (b ∷ l) zero d r h = r.0
ranged_at (b ∷ l) (suc i) d r h = ranged_at l i d r.1 (le_of_suc-le-suc h)

-- ---- the first m of eight boxes

module _ (m : ℕ) (b : Sides) (most : m ≤ 8) where
  boxes_length : length (take m (boxes_at b)) ≡ m
  boxes_length = length-take-le m (boxes_at b) (omega (arith, length_tab (box_at b) 8))

  boxes_at_lem : (i : ℕ) → i < m → get_or (take m (boxes_at b)) i nowhere ≡ box_at b i
  boxes_at_lem i h = get_or-take m (boxes_at b) i nowhere h ∙ getD_tab (box_at b) 8 i nowhere (omega arith)

  -- all but box i
  others_length : (i : ℕ) → i < m → length (without i (take m (boxes_at b))) ≡ m - 1
  others_length i h = omega (arith, boxes_length, length_without (take m (boxes_at b)) i (omega (arith, boxes_length)))

  others_at : (i k : ℕ) → k + 1 < m → get_or (without i (take m (boxes_at b))) k nowhere ≡ box_at b (skip i k)
  others_at i k h = getD_without (take m (boxes_at b)) i k nowhere ∙ boxes_at_lem (skip i k) (omega (arith, skip_le i k))

  others_ranged : (i k : ℕ) → AllRanged (take m (boxes_at b)) → k + 1 < m → Ranged (box_at b (skip i k))
  others_ranged i k r h =
      let e : skip i k < m = omega (arith, skip_le i k) in
      subst Ranged (boxes_at_lem (skip i k) e) (ranged_at (take m (boxes_at b)) (skip i k) nowhere r (omega (arith, boxes_length)))

  -- from the k-th on
  others_next : (i k : ℕ) → i < m → k + 1 < m → drop k (without i (take m (boxes_at b))) ≡ box_at b (skip i k) ∷ drop (k + 1) (without i (take m (boxes_at b)))
  others_next i k h t =
      let l = without i (take m (boxes_at b)) in
      drop-cons l k nowhere (omega (arith, others_length i h)) ∙ ap (λ (c : Box). c ∷ drop (suc k) l) (others_at i k t) ∙ ap (λ (n : ℕ). box_at b (skip i k) ∷ drop n l) (sym (add-one k))

  pub others_done : (i k : ℕ) → i < m → m ≤ k + 1 → drop k (without i (take m (boxes_at b))) ≡ []
  others_done i k h t = let e : length (without i (take m (boxes_at b))) ≤ k = omega (arith, others_length i h) in drop_of_length-le (without i (take m (boxes_at b))) e

-- a turn of a loop over them, which reads the k-th as c
module _ (m : ℕ) (b : Sides) (most : m ≤ 8) (i k : ℕ) (t : k < m - 1) {j : ℕ} {c : Box} (skips : j ≡ skip i k) (reads : c ≡ box_at b j) where
  is : c ≡ box_at b (skip i k)
  is = reads ∙ ap (box_at b) skips

  pub turn : i < m → drop k (without i (take m (boxes_at b))) ≡ c ∷ drop (k + 1) (without i (take m (boxes_at b)))
  turn h = others_next m b most i k h (omega arith) ∙ ap (λ (d : Box). d ∷ drop (k + 1) (without i (take m (boxes_at b)))) (sym is)

  pub turn_ranged : AllRanged (take m (boxes_at b)) → Ranged c
  turn_ranged r = subst Ranged (sym is) (others_ranged m b most i k r (omega arith))

-- ---- the farthest and the spread, one box on, and at the end

pub farthest_more : {l k : List Box} (a b : Box) (r : ℕ) → l ≡ b ∷ k → max (max r (apart a b)) (farthest a k) ≡ max r (farthest a l)
unfolding farthest
farthest_more a b r e = rw e (omega arith)

pub farthest_done : {l : List Box} (a : Box) (r : ℕ) → l ≡ [] → max r (farthest a l) ≡ r
unfolding farthest
farthest_done a r e = rw e (max-zero r)

-- whether it is above q
pub beyond_more : {l k : List Box} (a b : Box) (q : ℕ) → l ≡ b ∷ k → apart a b ≤ q → ltb q (farthest a k) ≡ ltb q (farthest a l)
beyond_more {l} {k} a b q e h = go (dec_lt q (farthest a k))
  where
    is : max (max 0 (apart a b)) (farthest a k) ≡ max 0 (farthest a l)
    is = farthest_more a b 0 e

    go : Dec (q < farthest a k) → ltb q (farthest a k) ≡ ltb q (farthest a l)
    go (yes f) = lt-ltb q (farthest a k) f ∙ sym (lt-ltb q (farthest a l) (omega (arith, is)))
    go (no f) = le-ltb q (farthest a k) (omega arith) ∙ sym (le-ltb q (farthest a l) (omega (arith, is)))

pub beyond_here : {l k : List Box} (a b : Box) (q : ℕ) → l ≡ b ∷ k → q < apart a b → ltb q (farthest a l) ≡ true
beyond_here {l} a b q e h = lt-ltb q (farthest a l) (omega (arith, farthest_more a b 0 e))

pub beyond_none : {l : List Box} (a : Box) (q : ℕ) → l ≡ [] → ltb q (farthest a l) ≡ false
beyond_none {l} a q e = le-ltb q (farthest a l) (omega (arith, farthest_done a 0 e))

pub spread_more : {l k : List Box} (b : Box) (r : ℕ) → l ≡ b ∷ k → max (max r (farthest b k)) (spread k) ≡ max r (spread l)
unfolding spread
spread_more b r e = rw e (omega arith)

pub spread_done : {l : List Box} (r : ℕ) → l ≡ [] → max r (spread l) ≡ r
unfolding spread
spread_done r e = rw e (max-zero r)

-- ---- the spread with one box replaced

farthest_set : (a b : Box) (l : List Box) (i : ℕ) → i < length l → farthest a (set l i b) ≡ max (farthest a (without i l)) (apart a b)
unfolding farthest without
farthest_set a b [] i h = absurd (not-suc-le-zero h)
farthest_set a b (c ∷ l) zero h = omega arith
farthest_set a b (c ∷ l) (suc i) h = rw (farthest_set a b l i (le_of_suc-le-suc h)) (omega arith)

pub spread_set : (l : List Box) (i : ℕ) (b : Box) → i < length l → spread (set l i b) ≡ max (spread (without i l)) (farthest b (without i l))
unfolding spread farthest without
spread_set [] i b h = absurd (not-suc-le-zero h)
spread_set (a ∷ l) zero b h = omega arith
spread_set (a ∷ l) (suc i) b h =
    rw (farthest_set a b l i (le_of_suc-le-suc h), spread_set l i b (le_of_suc-le-suc h), apart_comm b a) (omega arith)

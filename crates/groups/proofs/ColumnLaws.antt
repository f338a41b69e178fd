-- A candidate in columns, and one of its members replaced.
-- Assumes nothing.
use mathlib.Core.Path.{◌≡◌, refl, sym, ap, ap₂, ◌∙◌}
use mathlib.Core.List.{List, [], ◌∷◌, ◌++◌, map, map-append}
use Prim.Native.Nat.{ℕ, zero, suc, ◌≤◌, ◌<◌}
use native.Mathlib.Decide.{ℕ_discrete}
use native.Mathlib.Omega.{arith}
use lib.IntN.{ℤ, pos}
use lib.ListN.{length, take, get_or, set, replicate, length-set}
use lib.Seq.{ext_get_or, get_or-set_same, get_or-set_other, set-set, take-set-lt}
use Rattle.plane.specs.declared.Box.{Box}
use Rattle.order.specs.Tab.{tab}
use Rattle.order.proofs.TabLaws.{length_tab, getD_tab}
use Rattle.tree.specs.Tree.{Sides, box_at}
use Rattle.tree.specs.Lent.{sides}
use Rattle.members.specs.Boxes.{boxes_at, without}
use Rattle.groups.specs.Members.{Member, nobody, boxes_of, members_at}
use Rattle.groups.proofs.MemberLaws.{set_map}

-- ---- lists

map_take : {A B : Type 0} (f : A → B) (n : ℕ) (l : List A) → map f (take n l) ≡ take n (map f l)
map_take f zero l = refl
map_take f (suc n) [] = refl
map_take f (suc n) (a ∷ l) = ap (λ k. f a ∷ k) (map_take f n l)

map_tab : {A B : Type 0} (f : A → B) (g : ℕ → A) (n : ℕ) → map f (tab g n) ≡ tab (λ i. f (g i)) n
unfolding tab
map_tab f g zero = refl
map_tab f g (suc n) = map-append f (tab g n) (g n ∷ []) ∙ ap (λ k. k ++ (f (g n) ∷ [])) (map_tab f g n)

without_set : {A : Type 0} (l : List A) (i : ℕ) (a : A) → without i l ≡ without i (set l i a)
unfolding without
without_set [] i a = refl
without_set (b ∷ l) zero a = refl
without_set (b ∷ l) (suc i) a = ap (λ k. b ∷ k) (without_set l i a)

-- a list by its own elements
tab_self : {A : Type 0} (l : List A) (d : A) (n : ℕ) → length l ≡ n → tab (λ i. get_or l i d) n ≡ l
tab_self l d n e = ext_get_or d (tab (λ i. get_or l i d) n) l (length_tab _ n ∙ sym e) (λ i h. getD_tab _ n i d (omega (arith, length_tab (λ i. get_or l i d) n)))

-- ---- the columns of a candidate

module _ (levels numbers : List ℕ) (b : Sides) where
  pub members_long : length (members_at levels numbers b) ≡ 8
  members_long = length_tab _ 8

  pub member_at : (i : ℕ) → i < 8 → get_or (members_at levels numbers b) i nobody ≡ record { level = get_or levels i 0; number = get_or numbers i 0; at = box_at b i }
  member_at i h = getD_tab _ 8 i nobody h

  pub boxes_of_lem : (m : ℕ) → boxes_of (take m (members_at levels numbers b)) ≡ take m (boxes_at b)
  boxes_of_lem m = map_take _ m (members_at levels numbers b) ∙ ap (take m) (map_tab _ _ 8)

  pub levels_of : (m : ℕ) → length levels ≡ 8 → map (λ (a : Member). a.level) (take m (members_at levels numbers b)) ≡ take m levels
  levels_of m e = map_take _ m (members_at levels numbers b) ∙ ap (take m) (map_tab _ _ 8 ∙ tab_self levels 0 8 e)

  pub numbers_of : (m : ℕ) → length numbers ≡ 8 → map (λ (a : Member). a.number) (take m (members_at levels numbers b)) ≡ take m numbers
  numbers_of m e = map_take _ m (members_at levels numbers b) ∙ ap (take m) (map_tab _ _ 8 ∙ tab_self numbers 0 8 e)

-- each column has eight
pub record Eight (numbers : List ℕ) (b : Sides) : Type 0 where
  pub number : length numbers ≡ 8
  pub x_lo : length b.x_lo ≡ 8
  pub x_hi : length b.x_hi ≡ 8
  pub y_lo : length b.y_lo ≡ 8
  pub y_hi : length b.y_hi ≡ 8

-- box i of the sides replaced
abbrev pub put : Sides → ℕ → Box → Sides
put b i d = sides (set b.x_lo i d.x.lo) (set b.x_hi i d.x.hi) (set b.y_lo i d.y.lo) (set b.y_hi i d.y.hi)

pub eight_put : (numbers : List ℕ) (b : Sides) → Eight numbers b → (i p : ℕ) (d : Box) → Eight (set numbers i p) (put b i d)
eight_put numbers b long i p d = record {
  number = length-set numbers i p ∙ long.number;
  x_lo = length-set b.x_lo i d.x.lo ∙ long.x_lo;
  x_hi = length-set b.x_hi i d.x.hi ∙ long.x_hi;
  y_lo = length-set b.y_lo i d.y.lo ∙ long.y_lo;
  y_hi = length-set b.y_hi i d.y.hi ∙ long.y_hi;
}

-- member i replaced by one of a level, a number and a box
module _ (levels numbers : List ℕ) (b : Sides) (high : length levels ≡ 8) (long : Eight numbers b) (i : ℕ) (h : i < 8) (v p : ℕ) (d : Box) where
  abbrev old : List Member
  old = members_at levels numbers b

  abbrev new : Member
  new = record { level = v; number = p; at = d }

  at : (j : ℕ) → j < 8 → get_or (members_at (set levels i v) (set numbers i p) (put b i d)) j nobody ≡ get_or (set old i new) j nobody
  at j l = member_at (set levels i v) (set numbers i p) (put b i d) j l ∙ go (ℕ_discrete j i)
    where
      go : Dec (j ≡ i) → record { level = get_or (set levels i v) j 0; number = get_or (set numbers i p) j 0; at = box_at (put b i d) j } ≡ get_or (set old i new) j nobody
      go (yes e) =
          rw (
            e,
            get_or-set_same levels i v 0 (omega (arith, high)),
            get_or-set_same numbers i p 0 (omega (arith, long.number)),
            get_or-set_same b.x_lo i d.x.lo (pos 0) (omega (arith, long.x_lo)),
            get_or-set_same b.x_hi i d.x.hi (pos 0) (omega (arith, long.x_hi)),
            get_or-set_same b.y_lo i d.y.lo (pos 0) (omega (arith, long.y_lo)),
            get_or-set_same b.y_hi i d.y.hi (pos 0) (omega (arith, long.y_hi)),
          )
          (sym (get_or-set_same old i new nobody (omega (arith, members_long levels numbers b))))
      go (no n) =
          rw (
            get_or-set_other levels i j v 0 n,
            get_or-set_other numbers i j p 0 n,
            get_or-set_other b.x_lo i j d.x.lo (pos 0) n,
            get_or-set_other b.x_hi i j d.x.hi (pos 0) n,
            get_or-set_other b.y_lo i j d.y.lo (pos 0) n,
            get_or-set_other b.y_hi i j d.y.hi (pos 0) n,
          )
          (sym (get_or-set_other old i j new nobody n ∙ member_at levels numbers b j l))

  pub members_set : members_at (set levels i v) (set numbers i p) (put b i d) ≡ set old i new
  members_set =
      let long-new = members_long (set levels i v) (set numbers i p) (put b i d) in
      ext_get_or nobody (members_at (set levels i v) (set numbers i p) (put b i d)) (set old i new) (long-new ∙ sym (length-set old i new ∙ members_long levels numbers b)) (λ j l. at j (omega (arith, l, long-new)))

-- ---- columns that differ in entry i at most

pub record Beside (i : ℕ) (numbers : List ℕ) (b : Sides) (numbers' : List ℕ) (b' : Sides) : Type 0 where
  pub number : (p : ℕ) → set numbers i p ≡ set numbers' i p
  pub box : (d : Box) → put b i d ≡ put b' i d

pub beside_put : (i : ℕ) {numbers : List ℕ} {b : Sides} {numbers' : List ℕ} {b' : Sides} → Beside i numbers b numbers' b' → (p : ℕ) (d : Box) → Beside i (set numbers i p) (put b i d) numbers' b'
beside_put i {numbers} {b} {numbers'} {b'} s p d = record {
  number = λ q. set-set numbers i p q ∙ s.number q;
  box = λ c. ap₂ (λ (u v : List ℤ). sides u v (set (set b.y_lo i d.y.lo) i c.y.lo) (set (set b.y_hi i d.y.hi) i c.y.hi)) (set-set b.x_lo i d.x.lo c.x.lo) (set-set b.x_hi i d.x.hi c.x.hi)
      ∙ ap₂ (λ (u v : List ℤ). sides (set b.x_lo i c.x.lo) (set b.x_hi i c.x.hi) u v) (set-set b.y_lo i d.y.lo c.y.lo) (set-set b.y_hi i d.y.hi c.y.hi)
      ∙ s.box c;
}

-- the boxes, one of them replaced
boxes_put : (m i : ℕ) (numbers : List ℕ) (b : Sides) → Eight numbers b → m ≤ 8 → i < m → (d : Box) → take m (boxes_at (put b i d)) ≡ set (take m (boxes_at b)) i d
boxes_put m i numbers b long few h d =
    let levels : List ℕ = replicate 8 0 in
    sym (boxes_of_lem (set levels i 0) (set numbers i 0) (put b i d) m)
    ∙ ap (λ (l : List Member). boxes_of (take m l)) (members_set levels numbers b refl long i (omega arith) 0 0 d)
    ∙ ap boxes_of (take-set-lt m (members_at levels numbers b) i (record { level = 0; number = 0; at = d }) h)
    ∙ sym (set_map (λ (a : Member). a.at) (take m (members_at levels numbers b)) i (record { level = 0; number = 0; at = d }))
    ∙ ap (λ (l : List Box). set l i d) (boxes_of_lem levels numbers b m)

-- the others are the same
pub others_same : (m i : ℕ) {numbers : List ℕ} {b : Sides} {numbers' : List ℕ} {b' : Sides} → Beside i numbers b numbers' b' → Eight numbers b → Eight numbers' b' → m ≤ 8 → i < m → without i (take m (boxes_at b)) ≡ without i (take m (boxes_at b'))
others_same m i {numbers} {b} {numbers'} {b'} s long long' few h =
    let d = box_at b i in
    without_set (take m (boxes_at b)) i d
    ∙ ap (without i) (sym (boxes_put m i numbers b long few h d) ∙ ap (λ (c : Sides). take m (boxes_at c)) (s.box d) ∙ boxes_put m i numbers' b' long' few h d)
    ∙ sym (without_set (take m (boxes_at b')) i d)

-- The levels that go down in turn, and the topmost member by them.
-- Assumes nothing.
use mathlib.Core.Path.{◌≡◌, sym, ap, ◌∙◌}
use mathlib.Core.Bool.{cond}
use mathlib.Core.List.{List, map}
use Prim.Native.Nat.{ℕ, ◌+◌, ◌-◌, ◌≤◌, ◌<◌}
use native.Mathlib.Decide.{dec_lt, ℕ_discrete}
use native.Mathlib.Omega.{arith}
use lib.Dec.{ltb}
use lib.ListN.{length, take, get_or, set, replicate, length-set, length-map, length-take, length-replicate, get_or-replicate, get_or-map}
use lib.Seq.{ext_get_or, get_or-take, length-take-le, get_or-set_same, get_or-set_other}
use borrow.Author.Tests.{lt-ltb, le-ltb}
use Rattle.order.proofs.TabLaws.{length_tab, getD_tab}
use Rattle.tree.specs.Tree.{Shape, Thing, place, level}
use Rattle.closest.specs.Candidate.{member, topmost}
use Rattle.closest.proofs.TopLaws.{topmost_is}
use Rattle.closest.proofs.CandidateLaws.{inside}
use Rattle.members.specs.Levels.{levels_at, next_top, next_high}

-- ---- the topmost once it is replaced

pub top_on : (m top : ℕ) → top + 1 < m → next_top m top ≡ top + 1
top_on m top h = rw (lt-ltb (top + 1) m h)

pub top_back : (m top : ℕ) → m ≤ top + 1 → next_top m top ≡ 0
top_back m top h = rw (le-ltb (top + 1) m h)

pub high_on : (m top high : ℕ) → top + 1 < m → next_high m top high ≡ high
high_on m top high h = rw (lt-ltb (top + 1) m h)

pub high_back : (m top high : ℕ) → m ≤ top + 1 → next_high m top high ≡ high - 1
high_back m top high h = rw (le-ltb (top + 1) m h)

pub top_in : (m top : ℕ) → top < m → next_top m top < m
top_in m top h = go (dec_lt (top + 1) m)
  where
    go : Dec (top + 1 < m) → next_top m top < m
    go (yes l) = omega (arith, top_on m top l)
    go (no l) = omega (arith, top_back m top (omega arith))

-- nothing is left of the levels: it was the last member, and a leaf
pub high_last : (m top high : ℕ) → top < m → 0 < high → next_high m top high ≡ 0 → (top + 1 ≡ m) × (high ≡ 1)
high_last m top high h p e = go (dec_lt (top + 1) m)
  where
    go : Dec (top + 1 < m) → (top + 1 ≡ m) × (high ≡ 1)
    go (yes l) = absurd (omega (arith, high_on m top high l))
    go (no l) = let q = high_back m top high (omega arith) in (omega arith, omega (arith, q))

-- ---- the levels

module _ (m top high : ℕ) (few : m ≤ 8) where
  pub levels_eight : length (levels_at m top high) ≡ 8
  levels_eight = length_tab _ 8

  level_is : (i : ℕ) → i < 8 → get_or (levels_at m top high) i 0 ≡ cond (ltb i m) (cond (ltb i top) (high - 1) high) 0
  level_is i h = getD_tab _ 8 i 0 h

  before : (i : ℕ) → i < m → i < top → get_or (levels_at m top high) i 0 ≡ high - 1
  before i h l = level_is i (omega arith) ∙ (rw (lt-ltb i m h, lt-ltb i top l))

  pub from : (i : ℕ) → i < m → top ≤ i → get_or (levels_at m top high) i 0 ≡ high
  from i h l = level_is i (omega arith) ∙ (rw (lt-ltb i m h, le-ltb i top l))

  behind : (i : ℕ) → i < 8 → m ≤ i → get_or (levels_at m top high) i 0 ≡ 0
  behind i h l = level_is i h ∙ (rw (le-ltb i m l))

  -- the one that leads is replaced by one a level lower
  pub levels_next : top < m → set (levels_at m top high) top (high - 1) ≡ levels_at m (next_top m top) (next_high m top high)
  levels_next h = ext_get_or 0 old new (length-set (levels_at m top high) top (high - 1) ∙ levels_eight ∙ sym (length_tab _ 8)) (λ j l. at j (omega (arith, l, length-set (levels_at m top high) top (high - 1), levels_eight)))
    where
      old : List ℕ
      old = set (levels_at m top high) top (high - 1)

      new : List ℕ
      new = levels_at m (next_top m top) (next_high m top high)

      new_is : (j : ℕ) → j < 8 → get_or new j 0 ≡ cond (ltb j m) (cond (ltb j (next_top m top)) (next_high m top high - 1) (next_high m top high)) 0
      new_is j l = getD_tab _ 8 j 0 l

      here : (j : ℕ) → j < 8 → (n : ℕ) → get_or old j 0 ≡ n → cond (ltb j m) (cond (ltb j (next_top m top)) (next_high m top high - 1) (next_high m top high)) 0 ≡ n → get_or old j 0 ≡ get_or new j 0
      here j l n e f = e ∙ sym (new_is j l ∙ f)

      same : get_or old top 0 ≡ high - 1
      same = get_or-set_same (levels_at m top high) top (high - 1) 0 (omega (arith, levels_eight))

      other : (j : ℕ) → (j ≡ top → ⊥) → get_or old j 0 ≡ get_or (levels_at m top high) j 0
      other j n = get_or-set_other (levels_at m top high) top j (high - 1) 0 n

      on : (j : ℕ) → j < 8 → top + 1 < m → Dec (j ≡ top) → Dec (j < m) → Dec (j < top) → get_or old j 0 ≡ get_or new j 0
      on j l q (yes e) d f = rw e (here top (omega arith) (high - 1) same (rw (lt-ltb top m h, lt-ltb (top + 1) m q, lt-ltb top (top + 1) (omega arith))))
      on j l q (no n) (yes d) (yes f) = here j l (high - 1) (other j n ∙ before j d f) (rw (lt-ltb j m d, lt-ltb (top + 1) m q, lt-ltb j (top + 1) (omega arith)))
      on j l q (no n) (yes d) (no f) = here j l high (other j n ∙ from j d (omega arith)) (rw (lt-ltb j m d, lt-ltb (top + 1) m q, le-ltb j (top + 1) (omega arith)))
      on j l q (no n) (no d) f = here j l 0 (other j n ∙ behind j l (omega arith)) (rw (le-ltb j m (omega arith)))

      back : (j : ℕ) → j < 8 → m ≤ top + 1 → Dec (j ≡ top) → Dec (j < m) → get_or old j 0 ≡ get_or new j 0
      back j l q (yes e) d = rw e (here top (omega arith) (high - 1) same (rw (lt-ltb top m h, le-ltb (top + 1) m q, le-ltb top 0 (omega arith))))
      back j l q (no n) (yes d) = here j l (high - 1) (other j n ∙ before j d (omega arith)) (rw (lt-ltb j m d, le-ltb (top + 1) m q, le-ltb j 0 (omega arith)))
      back j l q (no n) (no d) = here j l 0 (other j n ∙ behind j l (omega arith)) (rw (le-ltb j m (omega arith)))

      at : (j : ℕ) → j < 8 → get_or old j 0 ≡ get_or new j 0
      at j l = go (dec_lt (top + 1) m)
        where
          go : Dec (top + 1 < m) → get_or old j 0 ≡ get_or new j 0
          go (yes q) = on j l q (ℕ_discrete j top) (dec_lt j m) (dec_lt j top)
          go (no q) = back j l (omega arith) (ℕ_discrete j top) (dec_lt j m)

  -- ---- a candidate of these levels

  module _ (s : Shape) (c : List Thing) (e : take m (levels_at m top high) ≡ map (level s) c) where
    -- past the end there is a place
    level_at_lem : (i : ℕ) → i < m → level s (member c i) ≡ get_or (levels_at m top high) i 0
    level_at_lem i h = sym (get_or-map (level s) c i (place 0)) ∙ ap (λ (l : List ℕ). get_or l i 0) (sym e) ∙ get_or-take m (levels_at m top high) i 0 h

    most : length c ≤ m
    most = omega (arith, length-map c (level s), ap length e, length-take m (levels_at m top high))

    high_inside : 0 < level s (member c (topmost s c)) → topmost s c < m
    high_inside h = omega (arith, inside s c (topmost s c) h, most)

    pub level_top : top < m → level s (member c top) ≡ high
    level_top h = level_at_lem top h ∙ from top h (omega arith)

    pub top_at : top < m → 0 < high → topmost s c ≡ top
    top_at h p = go (dec_lt (topmost s c) top) (dec_lt top (topmost s c))
      where
        least : high ≤ level s (member c (topmost s c))
        least = omega (arith, (topmost_is s c).highest top, level_top h)

        within : topmost s c < m
        within = high_inside (omega (arith, least))

        go : Dec (topmost s c < top) → Dec (top < topmost s c) → topmost s c ≡ top
        go (yes l) d = absurd (omega (arith, least, level_at_lem (topmost s c) within, before (topmost s c) within l))
        go (no l) (yes d) = absurd (omega (arith, (topmost_is s c).leftmost top d, level_top h, level_at_lem (topmost s c) within, from (topmost s c) within (omega arith)))
        go (no l) (no d) = omega arith

    -- where no level is left, all are places
    pub all_down : high ≡ 0 → level s (member c (topmost s c)) ≡ 0
    all_down z = go (dec_lt 0 (level s (member c (topmost s c))))
      where
        within : 0 < level s (member c (topmost s c)) → topmost s c < m
        within = high_inside

        none_left : (i : ℕ) → i < m → Dec (i < top) → level s (member c i) ≡ 0
        none_left i h (yes l) = omega (arith, level_at_lem i h, before i h l)
        none_left i h (no l) = omega (arith, level_at_lem i h, from i h (omega arith))

        go : Dec (0 < level s (member c (topmost s c))) → level s (member c (topmost s c)) ≡ 0
        go (yes h) = none_left (topmost s c) (within h) (dec_lt (topmost s c) top)
        go (no h) = omega arith

-- all on one level
pub levels_same : (m high : ℕ) → m ≤ 8 → take m (levels_at m 0 high) ≡ replicate m high
levels_same m high few =
    ext_get_or 0 (take m (levels_at m 0 high)) (replicate m high) (size ∙ sym (length-replicate m high))
    (λ i l. let h : i < m = omega (arith, l, size) in get_or-take m (levels_at m 0 high) i 0 h ∙ from m 0 high few i h (omega arith) ∙ sym (get_or-replicate m i high 0 h))
  where
    size : length (take m (levels_at m 0 high)) ≡ m
    size = length-take-le m (levels_at m 0 high) (omega (arith, levels_eight m 0 high few))

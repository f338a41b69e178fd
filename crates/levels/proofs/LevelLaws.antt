-- How the levels over at most 4,096 places lie.
-- Assumes nothing.
use Prim.Native.Nat.{ℕ, zero, suc, ◌+◌, ◌-◌, ◌*◌, ◌/◌, ◌≤◌, ◌<◌, min}
use mathlib.Core.Path.{◌≡◌, refl, sym, ap, ◌∙◌}
use native.Mathlib.Nat.{div-add-mod, mod-lt}
use native.Mathlib.Decide.{dec_lt}
use native.Mathlib.Omega.{arith}
use Rattle.verdict.proofs.FirstLaws.{First, first_found, first_is}
use Rattle.levels.specs.Levels.{size, height, over, first, nodes, listed, level_at, rank_at, spot_at}

-- a level has a sixteenth of the one below, rounded up
pub record Sixteenth (below above : ℕ) : Type 0 where
  pub low : below ≤ 16 * above
  pub high : 16 * above < below + 16

pub sixteenth : (s : ℕ) → Sixteenth s ((s + 15) / 16)
sixteenth s =
    let a = div-add-mod (s + 15) 16 in
    let b = mod-lt (s + 15) {m = 16} (omega arith) in
    record { low = omega arith; high = omega arith }

pub size_up : (n l : ℕ) → Sixteenth (size n l) (size n (suc l))
unfolding size
size_up n l = sixteenth (size n l)

pub size_none : (n : ℕ) → size n 0 ≡ n
unfolding size
size_none n = refl

-- no places, no nodes; else each level has one
pub size_zero : (n l : ℕ) → n ≡ 0 → size n l ≡ 0
size_zero n zero e = size_none n ∙ e
size_zero n (suc l) e = omega (arith, size_zero n l e, size_up n l)

pub size_some : (n l : ℕ) → 1 ≤ n → 1 ≤ size n l
size_some n zero h = omega (arith, size_none n)
size_some n (suc l) h = omega (arith, size_some n l h, size_up n l)

pub over_zero : (n l d : ℕ) → n ≡ 0 → over n l d ≡ 0
unfolding over
over_zero n l zero e = refl
over_zero n l (suc d) e = omega (arith, size_zero n (suc l) e, over_zero n (suc l) d e)

-- node m is on level l
pub record On (n m l : ℕ) : Type 0 where
  pub low : 1 ≤ l
  pub high : l ≤ height n
  pub from : first n l ≤ m
  pub to : m < first n (l - 1)

-- the levels counted from 1 up to some level, with as many nodes as `count`
pub record Counting (n s count : ℕ) : Type 0 where
  pub level : ℕ
  pub low : 1 ≤ level
  pub high : level ≤ height n
  pub size_is : s ≡ size n level
  pub count_is : count + first n level ≡ nodes n

-- the search for the level of m has come to the level above `lower`
pub record Climbing (n m level below end s : ℕ) : Type 0 where
  pub lower : ℕ
  pub level_is : level ≡ suc lower
  pub high : lower < height n
  pub below_is : below ≡ size n lower
  pub end_is : end ≡ first n lower
  pub size_is : s ≡ size n (suc lower)
  pub before : m < end

-- the root is at level 1, 2 or 3
module _ (n : ℕ) (few : n ≤ 4096) where
  small : size n 3 ≤ 1
  small = omega (arith, size_none n, size_up n 0, size_up n 1, size_up n 2)

  found : First (λ l. 1 < size n l) 1 5 (height n)
  unfolding height
  found = first_found (λ l. dec_lt 1 (size n l)) 1 5

  pub height_low : 1 ≤ height n
  height_low = found.above

  pub height_high : height n ≤ 3
  height_high = go (dec_lt 3 (height n))
    where
      go : Dec (3 < height n) → height n ≤ 3
      go (yes h) = absurd (omega (arith, small, found.before 3 (omega arith) h))
      go (no h) = omega arith

  -- one node at the top, or none for no places
  pub size_top : size n (height n) ≤ 1
  size_top = go (dec_lt 1 (size n (height n)))
    where
      go : Dec (1 < size n (height n)) → size n (height n) ≤ 1
      go (yes h) = absurd (found.fails (omega (arith, height_high)) h)
      go (no h) = omega arith

  -- how the numbers of one level follow those of the one above
  pub first_next : (l : ℕ) → l < height n → first n l ≡ size n (suc l) + first n (suc l)
  unfolding over
  first_next l h = let e : height n - l ≡ suc (height n - suc l) = omega arith in rw e

  pub first_top : first n (height n) ≡ 0
  unfolding over
  first_top = let e : height n - height n ≡ 0 = omega arith in rw e

  -- the numbers fall from level to level
  pub first_falls : (l k : ℕ) → l + k ≤ height n → first n (l + k) ≤ first n l
  first_falls l zero h = let e : l + 0 ≡ l = omega arith in rw e (omega arith)
  first_falls l (suc k) h = let e : l + suc k ≡ suc (l + k) = omega arith in rw e (omega (arith, first_falls l k (omega arith), first_next (l + k) (omega arith)))

  level_found : (m : ℕ) → First (λ l. m < first n l) 1 5 (level_at n m)
  unfolding level_at
  level_found m = first_found (λ l. dec_lt m (first n l)) 1 5

  pub on_level : (m : ℕ) → m < nodes n → On n m (level_at n m)
  on_level m h = record { low = f.above; high = top (dec_lt (height n) (level_at n m)); from = from (dec_lt m (first n (level_at n m))); to = to (level_at n m) f }
    where
      f : First (λ l. m < first n l) 1 5 (level_at n m)
      f = level_found m

      top : Dec (height n < level_at n m) → level_at n m ≤ height n
      top (yes g) = absurd (omega (arith, first_top, f.before (height n) height_low g))
      top (no g) = omega arith

      from : Dec (m < first n (level_at n m)) → first n (level_at n m) ≤ m
      from (yes g) = absurd (f.fails (omega (arith, top (dec_lt (height n) (level_at n m)), height_high)) g)
      from (no g) = omega arith

      to : (l : ℕ) → First (λ k. m < first n k) 1 5 l → m < first n (l - 1)
      to zero g = absurd (omega (arith, g.above))
      to (suc zero) g = h
      to (suc (suc l)) g = let e : suc (suc l) - 1 ≡ suc l = omega arith in rw e (g.before (suc l) (omega arith) (omega arith))

  -- and on no other
  pub on_is : (m l : ℕ) → On n m l → level_at n m ≡ l
  unfolding level_at
  on_is m l o = first_is (λ k. dec_lt m (first n k)) 1 5 l (record { above = o.low; within = omega (arith, o.high, height_high); before = before; fails = λ _ g. omega (arith, o.from) })
    where
      before : (k : ℕ) → 1 ≤ k → k < l → m < first n k
      before k a b =
          let e : k + (l - 1 - k) ≡ l - 1 = omega arith in
          omega (arith, o.to, rw e at (first_falls k (l - 1 - k) (omega (arith, o.high))))

  -- a level of more than one node is not the top
  pub below_top : (l : ℕ) → l ≤ height n → 1 < size n l → l < height n
  below_top l h g = go (dec_lt l (height n))
    where
      go : Dec (l < height n) → l < height n
      go (yes k) = k
      go (no k) = absurd (let e : l ≡ height n = omega arith in omega (arith, ap (size n) e, size_top))

  pub is_top : (l : ℕ) → 1 ≤ l → l ≤ height n → size n l ≤ 1 → l ≡ height n
  is_top l a h g = go (dec_lt l (height n))
    where
      go : Dec (l < height n) → l ≡ height n
      go (yes k) = absurd (omega (arith, found.before l a k))
      go (no k) = omega arith

  -- at most 273 nodes
  pub nodes_few : nodes n ≤ 273
  nodes_few = go (height n) refl
    where
      go : (h : ℕ) → height n ≡ h → nodes n ≤ 273
      go zero e = absurd (omega (arith, height_low))
      go (suc zero) e = omega (arith, first_next 0 (omega arith), ap (first n) (sym e), first_top, size_none n, size_up n 0)
      go (suc (suc zero)) e = omega (arith, first_next 0 (omega arith), first_next 1 (omega arith), ap (first n) (sym e), first_top, size_none n, size_up n 0, size_up n 1)
      go (suc (suc (suc zero))) e = omega (arith, first_next 0 (omega arith), first_next 1 (omega arith), first_next 2 (omega arith), ap (first n) (sym e), first_top, size_none n, size_up n 0, size_up n 1, size_up n 2)
      go (suc (suc (suc (suc h)))) e = absurd (omega (arith, height_high))

  pub counting_first : Counting n ((n + 15) / 16) ((n + 15) / 16)
  unfolding size
  counting_first = record { level = 1; low = omega arith; high = height_low; size_is = refl; count_is = sym (first_next 0 height_low) }

  pub counting_more : (s c : ℕ) → Counting n s c → 1 < s → Counting n ((s + 15) / 16) (c + (s + 15) / 16)
  unfolding size
  counting_more s c k h =
      let l = k.level in
      let b : l < height n = below_top l k.high (omega (arith, k.size_is)) in
      let e : (s + 15) / 16 ≡ size n (suc l) = ap (λ (z : ℕ). (z + 15) / 16) k.size_is in
      record { level = suc l; low = omega arith; high = b; size_is = e; count_is = omega (arith, e, k.count_is, first_next l b) }

  pub counting_last : (s c : ℕ) → Counting n s c → s ≤ 1 → c ≡ nodes n
  counting_last s c k h =
      let e : k.level ≡ height n = is_top k.level k.low k.high (omega (arith, k.size_is)) in
      omega (arith, k.count_is, ap (first n) e, first_top)

  pub size_few : (l : ℕ) → 1 ≤ l → l ≤ height n → size n l ≤ 273
  size_few zero a b = absurd (omega arith)
  size_few (suc l) a b = let e : 0 + l ≡ l = omega arith in omega (arith, nodes_few, first_next l b, rw e at (first_falls 0 l (omega arith)))

  -- no nodes, no places
  pub none_of : nodes n ≡ 0 → n ≡ 0
  none_of e = omega (arith, first_next 0 height_low, size_up n 0, size_none n)

  -- the entries: those that name nodes, and one for each place
  pub listed_is : listed n ≡ nodes n - 1 + n
  listed_is = omega (arith, first_next 0 height_low, size_up n 0, size_none n)

  pub climb_first : (m : ℕ) → m < nodes n → Climbing n m 1 n (nodes n) ((n + 15) / 16)
  unfolding size
  climb_first m h = record { lower = 0; level_is = refl; high = height_low; below_is = refl; end_is = refl; size_is = refl; before = h }

  module _ {m level below end s : ℕ} (k : Climbing n m level below end s) where
    pub climb_room : s ≤ end
    climb_room = omega (arith, k.end_is, k.size_is, first_next k.lower k.high)

    pub climb_more : m < end - s → Climbing n m (level + 1) s (end - s) ((s + 15) / 16)
    unfolding size
    climb_more h =
        let l = k.lower in
        let f : end - s ≡ first n (suc l) = omega (arith, k.end_is, k.size_is, first_next l k.high) in
        record { lower = suc l; level_is = omega (arith, k.level_is); high = not_top f (dec_lt (suc l) (height n)); below_is = k.size_is; end_is = f; size_is = ap (λ (z : ℕ). (z + 15) / 16) k.size_is; before = h }
      where
        not_top : end - s ≡ first n (suc k.lower) → Dec (suc k.lower < height n) → suc k.lower < height n
        not_top f (yes g) = g
        not_top f (no g) = absurd (let e : suc k.lower ≡ height n = omega (arith, k.high) in omega (arith, ap (first n) e, first_top))

    climb_on : (m < end - s → ⊥) → On n m (suc k.lower)
    climb_on h =
        let l = k.lower in
        let e : suc l - 1 ≡ l = omega arith in
        record { low = omega arith; high = k.high; from = omega (arith, k.end_is, k.size_is, first_next l k.high); to = rw e (omega (arith, k.end_is, k.before)) }

    climb_level : (m < end - s → ⊥) → level_at n m ≡ suc k.lower
    climb_level h = on_is m (suc k.lower) (climb_on h)

    climb_rank : (m < end - s → ⊥) → rank_at n m ≡ m - (end - s)
    climb_rank h = rw (climb_level h) (omega (arith, k.end_is, k.size_is, first_next k.lower k.high))

    lower_is : (m < end - s → ⊥) → level_at n m - 1 ≡ k.lower
    lower_is h = omega (arith, climb_level h)

    -- what is found
    pub climb_spot : (m < end - s → ⊥) → record { level = level; start = end + 16 * (m - (end - s)) - 1; count = min 16 (below - 16 * (m - (end - s))) } ≡ spot_at n m
    climb_spot h = rw (climb_rank h, lower_is h, climb_level h, k.level_is, k.below_is, k.end_is)

    pub climb_small : (s ≤ 273) × ((end ≤ 273) × (level ≤ 3))
    climb_small =
        let l = k.lower in
        let e : 0 + l ≡ l = omega arith in (
          omega (arith, k.size_is, size_few (suc l) (omega arith) k.high),
          (omega (arith, k.end_is, nodes_few, rw e at (first_falls 0 l (omega (arith, k.high)))), omega (arith, k.level_is, k.high, height_high)),
        )

    pub climb_share : (m < end - s → ⊥) → 16 * (m - (end - s)) ≤ below
    climb_share h = omega (arith, climb_room, k.before, k.below_is, k.size_is, size_up n k.lower)

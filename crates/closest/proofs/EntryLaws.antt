-- The places and nodes of a linked tree, their entries, and what lies below them.
-- Assumes nothing.
use mathlib.Core.Path.{◌≡◌, refl, ap}
use mathlib.Core.List.{[], ◌∷◌}
use mathlib.Core.Logic.{inl, ⊎_elim}
use Prim.Native.Nat.{ℕ, zero, suc, ◌+◌, ◌-◌, ◌<◌}
use native.Mathlib.Nat.{eq-or-lt_of_le, le_of_suc-le-suc}
use native.Mathlib.Omega.{arith}
use Rattle.order.specs.Tab.{tab}
use Rattle.tree.specs.Tree.{Shape, Stands, start_of, count_of, Thing, place, node, named, level, Below, here, through}
use Rattle.tree.proofs.BelowLaws.{Linked, Known, known, one_lower}
use Rattle.tree.proofs.OwnerLaws.{named_is, run_within}
use Rattle.walks.specs.Lists.{In}
use Rattle.walks.proofs.ListLaws.{in_left, in_right, in_append}
use Rattle.closest.specs.Candidate.{number, Good, entry, entries_of}

-- the members of a list by a rule
module _ {A : Type 0} (f : ℕ → A) where
  of_tab : (n : ℕ) (y : A) → In y (tab f n) → (k : ℕ) × (k < n) × (y ≡ f k)
  unfolding tab
  of_tab zero y h = absurd h
  of_tab (suc n) y h =
      ⊎_elim (λ p. let r = of_tab n y p in (r.0, omega arith, r.2)) (λ q. ⊎_elim (λ e. (n, omega arith, e)) (λ z. absurd z) q) (in_append y (tab f n) (f n ∷ []) h)

  in_tab : (n k : ℕ) → k < n → In (f k) (tab f n)
  unfolding tab
  in_tab zero k h = absurd (omega arith)
  in_tab (suc n) k h =
      ⊎_elim (λ (e : k ≡ n). in_right (f k) (tab f n) (f n ∷ []) (inl (ap f e))) (λ (l : k < n). in_left (f k) (tab f n) (f n ∷ []) (in_tab n k l)) (eq-or-lt_of_le (le_of_suc-le-suc h))

-- y is named in the run of x
pub data Entry (s : Shape) : Thing → Thing → Type 0 where
  named_at : (n i : ℕ) → Stands s i n → Entry s (node n) (named s i)

pub known_good : (p : ℕ) (s : Shape) (x : Thing) → Known p s x → Good p s x
known_good p s (place q) k = k
known_good p s (node n) k = k.1

module _ {p : ℕ} {s : Shape} (m : Linked p s) where
  pub entry_good : {x y : Thing} → Entry s x y → Good p s y
  entry_good (named_at n i t) = known_good p s (named s i) (known m i (omega (arith, t.high, run_within m.runs n t.node)))

  pub good_below : {y x : Thing} → Good p s x → Below s y x → Good p s y
  good_below g here = g
  good_below g (through n i t b) = good_below (entry_good (named_at n i t)) b

  pub entry_lower : {x y : Thing} → Entry s x y → level s y < level s x
  entry_lower (named_at n i t) = omega (arith, one_lower m i n t)

  pub of_entries : (x y : Thing) → Good p s x → In y (entries_of s x) → Entry s x y
  unfolding entries_of
  of_entries (place q) y g h = absurd h
  of_entries (node n) y g h =
      let r = of_tab (entry s n) (count_of s n) y h in
      let t : Stands s (start_of s n + r.0) n = record { node = g; low = omega arith; high = omega (arith, r.1) } in
      rw (r.2, ← named_is m.runs (start_of s n + r.0) n t) (named_at n (start_of s n + r.0) t)

  pub in_entries : {x y : Thing} → Entry s x y → In y (entries_of s x)
  unfolding entries_of
  in_entries (named_at n i t) =
      let same : start_of s n + (i - start_of s n) ≡ i = omega (arith, t.low) in
      rw (named_is m.runs i n t, ← same) (in_tab (entry s n) (count_of s n) (i - start_of s n) (omega (arith, t.high)))

  -- a thing of level 0 is a place, and below it is nothing else
  pub is_place : (x : Thing) → Good p s x → level s x ≡ 0 → x ≡ place (number x)
  is_place (place q) g e = refl
  is_place (node n) g e = absurd (omega (arith, (m.runs.shaped n g).level_low))

  pub only_itself : (x : Thing) (q : ℕ) → Good p s x → level s x ≡ 0 → Below s (place q) x → q ≡ number x
  only_itself (place _) q g e here = refl
  only_itself (node n) q g e b = absurd (omega (arith, (m.runs.shaped n g).level_low))

-- the entry on the way down to a place, and the way up by an entry
pub way : {s : Shape} {q : ℕ} {x : Thing} → 0 < level s x → Below s (place q) x → (y : Thing) × Entry s x y × Below s (place q) y
way l here = absurd (omega arith)
way {s} l (through n i t b) = (named s i, named_at n i t, b)

pub up_entry : {s : Shape} {z x y : Thing} → Entry s x y → Below s z y → Below s z x
up_entry (named_at n i t) b = through n i t b

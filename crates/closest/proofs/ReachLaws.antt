-- What the walk reaches from a candidate: the groups whose places stand below its members and hold their kinds.
-- Assumes nothing.
use mathlib.Core.Path.{◌≡◌, refl, sym, ap, ◌∙◌}
use mathlib.Core.Bool.{Bool, true}
use mathlib.Core.List.{List, map}
use mathlib.Core.Option.{Option, none, some}
use mathlib.Core.Logic.{◌⊎◌, inl, inr, ⊎_elim}
use Prim.Native.Nat.{ℕ, zero, suc, ◌<◌}
use native.Mathlib.Decide.{ℕ_discrete}
use native.Mathlib.Omega.{arith}
use lib.ListN.{length, get_or, set, length-set, length-map, get_or-map}
use lib.Seq.{get_or-set_same, get_or-set_other, ext_get_or}
use Rattle.tree.specs.Tree.{Shape, Stands, Thing, place, node, named, level, Below, here}
use Rattle.tree.proofs.BelowLaws.{Linked, up_chain}
use Rattle.walks.specs.Lists.{In}
use Rattle.walks.specs.Walk.{Memory, walk, reach}
use Rattle.walks.proofs.ListLaws.{in_each, of_each}
use Rattle.walks.proofs.WalkLaws.{Closed, reach_group, reach_open, enough}
use Rattle.closest.specs.Candidate.{Good, number, entries_of, member, topmost, levels, group_of, opened, scene}
use Rattle.closest.proofs.EntryLaws.{Entry, entry_good, entry_lower, of_entries, in_entries, is_place, only_itself, way, up_entry}
use Rattle.closest.proofs.CandidateLaws.{inside, of_replaced, in_replaced, levels_set, group_is, open_is}

-- what the walk needs of a tree over p places, and of the test for kinds: what an entry holds its node holds
pub record Sound (p : ℕ) (s : Shape) (holds : ℕ → Thing → Bool) : Type 0 where
  pub linked : Linked p s
  pub rises : (k n i : ℕ) → Stands s i n → holds k (named s i) ≡ true → holds k (node n) ≡ true

-- a candidate: for each kind a thing that there is and that holds it
pub record Fine (p : ℕ) (s : Shape) (holds : ℕ → Thing → Bool) (kinds : List ℕ) (c : List Thing) : Type 0 where
  pub size : length c ≡ length kinds
  pub good : (i : ℕ) → i < length c → Good p s (member c i)
  pub holding : (i : ℕ) → i < length c → holds (get_or kinds i 0) (member c i) ≡ true

-- a group below it: for each member a place below, which holds its kind
pub record Under (s : Shape) (holds : ℕ → Thing → Bool) (kinds : List ℕ) (c : List Thing) (g : List ℕ) : Type 0 where
  pub size : length g ≡ length c
  pub below : (i : ℕ) → i < length c → Below s (place (get_or g i 0)) (member c i)
  pub holding : (i : ℕ) → i < length c → holds (get_or kinds i 0) (place (get_or g i 0)) ≡ true

-- one right below it: y, an entry of the topmost member that holds its kind, stands in its place
record Opened (s : Shape) (holds : ℕ → Thing → Bool) (kinds : List ℕ) (c d : List Thing) (y : Thing) : Type 0 where
  inside : topmost s c < length c
  entry : Entry s (member c (topmost s c)) y
  holding : holds (get_or kinds (topmost s c) 0) y ≡ true
  is : d ≡ set c (topmost s c) y

module _ {s : Shape} {holds : ℕ → Thing → Bool} {kinds : List ℕ} {c d : List Thing} {y : Thing} (o : Opened s holds kinds c d y) where
  opened_size : length d ≡ length c
  opened_size = ap length o.is ∙ length-set c (topmost s c) y

  opened_at : (j : ℕ) → ((j ≡ topmost s c) × (member d j ≡ y)) ⊎ (member d j ≡ member c j)
  opened_at j = go (ℕ_discrete j (topmost s c))
    where
      go : Dec (j ≡ topmost s c) → ((j ≡ topmost s c) × (member d j ≡ y)) ⊎ (member d j ≡ member c j)
      go (yes e) = inl (e, rw (o.is, e) (get_or-set_same c (topmost s c) y (place 0) o.inside))
      go (no n) = inr (rw o.is (get_or-set_other c (topmost s c) j y (place 0) n))

module _ {p : ℕ} {s : Shape} {holds : ℕ → Thing → Bool} (w : Sound p s holds) (kinds : List ℕ) where
  of_opened : (c d : List Thing) → Fine p s holds kinds c → group_of s c ≡ none → In d (opened s holds kinds c) → (y : Thing) × Opened s holds kinds c d y
  unfolding opened
  of_opened c d f e h =
      let i = topmost s c in
      let l = inside s c i (open_is s c e) in
      let r = of_replaced (holds (get_or kinds i 0)) c i (entries_of s (member c i)) d h in
      (r.0, record { inside = l; entry = of_entries w.linked (member c i) r.0 (f.good i l) r.1; holding = r.2; is = r.3 })

  in_opened : {c d : List Thing} {y : Thing} → Opened s holds kinds c d y → In d (opened s holds kinds c)
  unfolding opened
  in_opened {c} {d} {y} o = rw o.is (in_replaced (holds (get_or kinds (topmost s c) 0)) c (topmost s c) (entries_of s (member c (topmost s c))) y (in_entries w.linked o.entry) o.holding)

  fine_below : {c d : List Thing} {y : Thing} → Fine p s holds kinds c → Opened s holds kinds c d y → Fine p s holds kinds d
  fine_below f o =
      let n = opened_size o in
      record {
        size = n ∙ f.size;
        good = λ j b. ⊎_elim (λ e. rw e.1 (entry_good w.linked o.entry)) (λ e. rw e (f.good j (omega arith))) (opened_at o j);
        holding = λ j b. ⊎_elim (λ e. rw (e.1, e.0) o.holding) (λ e. rw e (f.holding j (omega arith))) (opened_at o j);
      }

  -- candidates right below fine ones are fine, and their levels' sum is less
  pub closed : Closed (scene s holds kinds) (Fine p s holds kinds)
  closed c f e d i = fine_below f (of_opened c d f e i).1

  pub falls : (c : List Thing) → Fine p s holds kinds c → group_of s c ≡ none → (d : List Thing) → In d (opened s holds kinds c) → levels s d < levels s c
  falls c f e d i =
      let r = of_opened c d f e i in
      let l : levels s (set c (topmost s c) r.0) < levels s c = omega (arith, levels_set s c (topmost s c) r.0 r.1.inside, entry_lower w.linked r.1.entry) in
      rw r.1.is l

  -- a group below a candidate right below is below the candidate
  up : {c d : List Thing} {y : Thing} {g : List ℕ} → Opened s holds kinds c d y → Under s holds kinds d g → Under s holds kinds c g
  up {c} {d} {y} {g} o u =
      let n = opened_size o in
      record {
        size = u.size ∙ n;
        below = λ j b. let v = u.below j (omega arith) in ⊎_elim (λ e. rw e.0 (up_entry o.entry (rw (e.1, e.0) at v))) (λ e. rw e at v) (opened_at o j);
        holding = λ j b. u.holding j (omega arith);
      }

  -- and a group below an open candidate is below one right below it
  down : {c : List Thing} {g : List ℕ} → group_of s c ≡ none → Under s holds kinds c g → (y : Thing) × (d : List Thing) × Opened s holds kinds c d y × Under s holds kinds d g
  down {c} {g} e u =
      let i = topmost s c in
      let b = inside s c i (open_is s c e) in
      let v = way (open_is s c e) (u.below i b) in
      let h = up_chain (λ x. holds (get_or kinds i 0) x ≡ true) (w.rises (get_or kinds i 0)) v.2 (u.holding i b) in
      let o : Opened s holds kinds c (set c i v.0) v.0 = record { inside = b; entry = v.1; holding = h; is = refl } in
      let n = opened_size o in (
        v.0,
        set c i v.0,
        o,
        record {
          size = u.size ∙ sym n;
          below = λ j k. ⊎_elim (λ q. rw (q.1, q.0) v.2) (λ q. rw q (u.below j (omega arith))) (opened_at o j);
          holding = λ j k. u.holding j (omega arith);
        },
      )

  -- a candidate of places has one group below: its own
  number_at : (c : List Thing) (i : ℕ) → get_or (map number c) i 0 ≡ number (member c i)
  number_at c i = get_or-map number c i (place 0)

  own : {c : List Thing} → Fine p s holds kinds c → ((i : ℕ) → level s (member c i) ≡ 0) → Under s holds kinds c (map number c)
  own {c} f z = record {
    size = length-map c number;
    below = λ i l. rw (number_at c i, ← is_place w.linked (member c i) (f.good i l) (z i)) here;
    holding = λ i l. rw (number_at c i, ← is_place w.linked (member c i) (f.good i l) (z i)) (f.holding i l);
  }

  only_own : {c : List Thing} {g : List ℕ} → Fine p s holds kinds c → ((i : ℕ) → level s (member c i) ≡ 0) → Under s holds kinds c g → g ≡ map number c
  only_own {c} {g} f z u =
      ext_get_or 0 g (map number c) (u.size ∙ sym (length-map c number)) (λ i l. let b : i < length c = omega (arith, u.size) in only_itself w.linked (member c i) (get_or g i 0) (f.good i b) (z i) (u.below i b) ∙ sym (number_at c i))

  -- every group that the walk reaches is below
  pub reached : (fuel : ℕ) {c : List Thing} {g : List ℕ} → Fine p s holds kinds c → In g (reach (scene s holds kinds) fuel c) → Under s holds kinds c g
  unfolding reach
  reached zero f i = absurd i
  reached (suc fuel) {c} {g} f i = go (group_of s c) refl (λ d h j. reached fuel h j)
    where
      go : (v : Option (List ℕ)) → group_of s c ≡ v → ((d : List Thing) → Fine p s holds kinds d → In g (reach (scene s holds kinds) fuel d) → Under s holds kinds d g) → Under s holds kinds c g
      go (some a) e ih =
          let r = group_is s c e in
          ⊎_elim (λ (q : g ≡ a). rw (q, r.1) (own f r.0)) (λ z. absurd z) (rw (reach_group (scene s holds kinds) fuel c e) at i)
      go none e ih =
          let r = of_each (reach (scene s holds kinds) fuel) g (opened s holds kinds c) (rw (reach_open (scene s holds kinds) fuel c e) at i) in
          let o = of_opened c r.0 f e r.1 in
          up o.1 (ih r.0 (fine_below f o.1) r.2)

  -- and every group below is reached, with fuel above the levels' sum
  pub reaches : (fuel : ℕ) {c : List Thing} {g : List ℕ} → Fine p s holds kinds c → levels s c < fuel → Under s holds kinds c g → In g (reach (scene s holds kinds) fuel c)
  reaches zero f l u = absurd (omega arith)
  reaches (suc fuel) {c} {g} f l u = go (group_of s c) refl (λ d h b v. reaches fuel h b v)
    where
      go : (v : Option (List ℕ)) → group_of s c ≡ v → ((d : List Thing) → Fine p s holds kinds d → levels s d < fuel → Under s holds kinds d g → In g (reach (scene s holds kinds) fuel d)) → In g (reach (scene s holds kinds) (suc fuel) c)
      go (some a) e ih =
          let r = group_is s c e in
          rw (reach_group (scene s holds kinds) fuel c e) (inl (only_own f r.0 u ∙ sym r.1))
      go none e ih =
          let r = down e u in
          let i = in_opened r.2 in
          rw (reach_open (scene s holds kinds) fuel c e) (in_each (reach (scene s holds kinds) fuel) g r.1 (opened s holds kinds c) i (ih r.1 (fine_below f r.2) (omega (arith, falls c f e r.1 i)) r.3))

  -- the walk's fuel does not run out: any more gives the same walk
  pub any_fuel : {K : Type 0} (m : Memory (List ℕ) K) (far : List Thing → ℕ → Bool) (fuel : ℕ) (c : List Thing) (k : K) → Fine p s holds kinds c → levels s c < fuel →
      walk (scene s holds kinds) m far fuel c k ≡ walk (scene s holds kinds) m far (suc (levels s c)) c k
  any_fuel m far fuel c k f l = enough (scene s holds kinds) m far closed (levels s) falls fuel (suc (levels s c)) c k f l (omega arith)

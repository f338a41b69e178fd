-- Columns that hold the builder's levels, runs and entry list: that they do, what their runs name, and what a run comes to.
-- Assumes nothing.
use mathlib.Core.Path.{◌≡◌, sym, ap, ap₂, ◌∙◌}
use mathlib.Core.Bool.{Bool, true, false, cond}
use mathlib.Core.List.{List, ◌++◌}
use Prim.Native.Nat.{ℕ, zero, suc, ◌+◌, ◌-◌, ◌*◌, ◌≤◌, ◌<◌}
use native.Mathlib.Nat.{add-zero}
use native.Mathlib.Omega.{arith}
use borrow.Author.Tests.{eq-eqb, ne_eqb}
use lib.Dec.{eqb}
use lib.ListN.{length, get_or, length-append, get_or-append}
use lib.Seq.{get_or-append-add}
use Rattle.plane.specs.Run.{joined}
use Rattle.table.specs.Table.{Table, places}
use Rattle.order.specs.Order.{order}
use Rattle.order.specs.Tab.{tab}
use Rattle.order.proofs.OrderLaws.{length_order, order_below}
use Rattle.order.proofs.TabLaws.{length_tab, getD_tab}
use Rattle.tree.specs.Tree.{Shape, level_of, start_of, count_of, end_of, Thing, place, node, thing}
use Rattle.tree.specs.Lent.{InRun, run_says}
use Rattle.levels.specs.Levels.{nodes, listed, level_at, rank_at, start_at, count_at}
use Rattle.levels.specs.Built.{value, value_at, entries_of}
use Rattle.levels.specs.Laid.{Says, Laid}
use Rattle.levels.proofs.LevelLaws.{height_low, size_none, size_up, first_next}
use Rattle.levels.proofs.RankLaws.{Ranked, ranked, before, is_node, level_is, rank_is, count_low, count_high, named_at, run_inside}

-- a column that begins with what a rule says
pub tab_long : {A : Type 0} (f : ℕ → A) (k : ℕ) (rest : List A) → k ≤ length (tab f k ++ rest)
tab_long f k rest = omega (arith, length-append (tab f k) rest, length_tab f k)

pub says_tab : {A : Type 0} {d : A} {n k : ℕ} {f : ℕ → A} {column : List A} (rest : List A) → k ≡ n → column ≡ tab f k ++ rest → Says d n f column
says_tab {d = d} {k = k} {f = f} rest q e = record {
  room = omega (arith, ap length e, tab_long f k rest);
  at = λ m l.
      ap (λ z. get_or z m d) e
      ∙ get_or-append (tab f k) rest d m (omega (arith, length_tab f k))
      ∙ getD_tab f k m d (omega arith);
}

-- the entry list names all nodes but the root, and the places: as many as the entry count says
entries_long : (t : Table) → length (entries_of t) ≡ nodes (places t) - 1 + places t
entries_long t = let k = nodes (places t) - 1 in omega (arith, length-append (tab suc k) (order t.x t.y), length_tab suc k, length_order t.x t.y)

pub length_entries : (t : Table) → places t ≤ 4096 → length (entries_of t) ≡ listed (places t)
length_entries t few = let n = places t in omega (arith, entries_long t, first_next n few 0 (height_low n few), size_up n 0, size_none n)

-- columns that begin with the builder's are laid
pub laid_of : {t : Table} {s : Shape} {k : ℕ} → places t ≤ 4096 → k ≡ nodes (places t) → (l₀ s₀ c₀ e₀ : List ℕ) →
    s.level ≡ tab (level_at (places t)) k ++ l₀ →
    s.start ≡ tab (start_at (places t)) k ++ s₀ →
    s.count ≡ tab (count_at (places t)) k ++ c₀ →
    s.entries ≡ entries_of t ++ e₀ →
    Laid t s
laid_of {t} {s} few q l₀ s₀ c₀ e₀ level start count entries = record {
  few = few;
  level = says_tab l₀ q level;
  start = says_tab s₀ q start;
  count = says_tab c₀ q count;
  long = omega (arith, ap length entries, length-append (entries_of t) e₀, length_entries t few);
  node = λ i l. within i (omega (arith, entries_long t)) ∙ get_or-append (tab suc k) (order t.x t.y) 0 i (omega (arith, length_tab suc k)) ∙ getD_tab suc k i 0 (omega arith);
  place = λ r l. within (k + r) (omega (arith, entries_long t)) ∙ ap (λ (j : ℕ). get_or (entries_of t) (j + r) 0) (sym (length_tab suc k)) ∙ get_or-append-add (tab suc k) (order t.x t.y) r 0;
}
  where
    k : ℕ
    k = nodes (places t) - 1

    within : (i : ℕ) → i < length (entries_of t) → get_or s.entries i 0 ≡ get_or (entries_of t) i 0
    within i l = ap (λ z. get_or z i 0) entries ∙ get_or-append (entries_of t) e₀ 0 i l

-- joined from one number on, and from another
joined_moved : {A : Type 0} (op : A → A → A) (f g : ℕ → A) (a b k : ℕ) → ((j : ℕ) → j ≤ k → f (a + j) ≡ g (b + j)) → joined op f a k ≡ joined op g b k
unfolding joined
joined_moved op f g a b zero h = simp add-zero at (h 0 (omega arith))
joined_moved op f g a b (suc k) h = ap₂ op (joined_moved op f g a b k (λ j l. h j (omega arith))) (h (suc k) (omega arith))

-- what the list index i names: the thing of rank r on level k
pub data Entry (t : Table) (i : ℕ) : ℕ → ℕ → Thing → Type 0 where
  of_place : {r : ℕ} → r < places t → suc i ≡ nodes (places t) + r → Entry t i 0 r (place (get_or (order t.x t.y) r 0))
  of_node : {k r : ℕ} → Ranked (places t) (suc i) k r → Entry t i (suc k) r (node (suc i))

-- what an entry names is there
entry_below : {t : Table} {i k r : ℕ} → places t ≤ 4096 → (leaf : Bool) (e : ℕ) → Entry t i k r (thing leaf e) → e < cond leaf (places t) (nodes (places t))
entry_below {t} few true e (of_place {r} l _) = order_below t.x t.y few r l
entry_below few false e (of_node o) = is_node few o

module _ {t : Table} {s : Shape} (a : Laid t s) (m : ℕ) (l : m < nodes (places t)) where
  abbrev n : ℕ
  n = places t

  -- the j-th entry of the run of m
  entry_of : {k r : ℕ} → Ranked n m k r → (j : ℕ) → j < count_at n m → Entry t (start_at n m + j) k (16 * r + j) (thing (eqb (level_of s m) 1) (get_or s.entries (start_at n m + j) 0))
  entry_of {k = zero} {r} o j b =
      let e : level_of s m ≡ 1 = a.level.at m l ∙ level_is a.few o in
      let q : start_at n m + j ≡ nodes n - 1 + (16 * r + j) = omega (arith, named_at a.few o j, before a.few o) in
      let c : 16 * r + j < n = omega (arith, count_high a.few o, size_none n) in
      let x = ap₂ thing (eq-eqb (level_of s m) 1 e) (ap (λ (i : ℕ). get_or s.entries i 0) q ∙ a.place (16 * r + j) c) in
      rw x (of_place c (named_at a.few o j))
  entry_of {k = suc k} {r} o j b =
      let e : level_of s m ≡ suc (suc k) = a.level.at m l ∙ level_is a.few o in
      let p : Ranked n (suc (start_at n m + j)) k (16 * r + j) = record { high = omega (arith, o.high); low = omega (arith, count_high a.few o); number = named_at a.few o j } in
      let x = ap₂ thing (ne_eqb (level_of s m) 1 (λ z. omega arith)) (a.node (start_at n m + j) (is_node a.few p)) in
      rw x (of_node p)

  -- and what stands at the list index i of it
  pub entry_at : (i : ℕ) → start_of s m ≤ i → i < end_of s m → (r : ℕ) × Entry t i (level_at n m - 1) r (thing (eqb (level_of s m) 1) (get_or s.entries i 0))
  entry_at i b c =
      let q : start_at n m + (i - start_at n m) ≡ i = omega (arith, a.start.at m l) in
      (_, rw q at (entry_of (ranked a.few m l) (i - start_at n m) (omega (arith, a.start.at m l, a.count.at m l))))

  in_run : (leaf : Bool) → eqb (level_of s m) 1 ≡ leaf → InRun (cond leaf n (nodes n)) s.entries (start_of s m) (count_of s m)
  in_run leaf e =
      let o = ranked a.few m l in
      record {
        some = omega (arith, a.count.at m l, count_low a.few o);
        inside = omega (arith, a.start.at m l, a.count.at m l, run_inside a.few o, a.long);
        known = λ i b c. entry_below a.few leaf (get_or s.entries i 0) (rw e at (entry_at i b c).1);
      }

  -- the entries of a leaf are places, those of another node are nodes
  pub leaf_in : eqb (level_of s m) 1 ≡ true → InRun (places t) s.entries (start_of s m) (count_of s m)
  leaf_in e = in_run true e

  pub node_in : eqb (level_of s m) 1 ≡ false → InRun (nodes (places t)) s.entries (start_of s m) (count_of s m)
  node_in e = in_run false e

  -- a run comes to the builder's value, where f says g of each place and the builder's value of each later node
  pub run_value : {A : Type 0} (op : A → A → A) (g : ℕ → A) (f : Thing → A) → ((p : ℕ) → f (place p) ≡ g p) → ((q : ℕ) → m < q → q < nodes (places t) → f (node q) ≡ value_at op t g q) →
      run_says op f (eqb (level_of s m) 1) s.entries (start_of s m) (count_of s m) ≡ value_at op t g m
  unfolding value
  run_value {A} op g f h k =
      let o = ranked a.few m l in
      rw (a.start.at m l, a.count.at m l)
      (joined_moved op _ (value op n by_rank (level_at n m - 1)) (start_at n m) (16 * rank_at n m) (count_at n m - 1)
      (λ j b. says (omega (arith, before a.few o, named_at a.few o j)) (entry_of o j (omega (arith, count_low a.few o))))
      ∙ ap (λ (k : ℕ). value op n by_rank k (rank_at n m)) (sym (level_is a.few o)))
    where
      by_rank : ℕ → A
      by_rank r = g (get_or (order t.x t.y) r 0)

      says : {i k r : ℕ} {x : Thing} → m < suc i → Entry t i k r x → f x ≡ value op n by_rank k r
      says b (of_place {r} _ _) = h (get_or (order t.x t.y) r 0)
      says {i} b (of_node o) = k (suc i) b (is_node a.few o) ∙ ap₂ (value op n by_rank) (level_is a.few o) (rank_is a.few o)

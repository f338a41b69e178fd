-- Over a table whose places are in range, the sides of every node's box are in range.
-- Assumes nothing.
use mathlib.Core.Path.{◌≡◌, sym, subst}
use mathlib.Core.Bool.{Bool, true, false, cond}
use Prim.Native.Nat.{ℕ, zero, suc, ◌+◌, ◌-◌, ◌≤◌, ◌<◌}
use native.Mathlib.Omega.{arith}
use lib.IntN.{ℤ}
use lib.Signed.{lt_z}
use Rattle.plane.specs.Plane.{outside, least, greatest, join_boxes, Ranged}
use Rattle.plane.specs.Run.{joined}
use Rattle.plane.specs.declared.Box.{Box}
use Rattle.table.specs.Table.{Table, places, Valid}
use Rattle.table.proofs.TableLaws.{valid_ranged}
use Rattle.tree.specs.Tree.{Tree, Stands, start_of, count_of, level_of, end_of, Thing, place, node, named, level, box_of, box_at}
use Rattle.tree.proofs.OwnerLaws.{run_within}
use Rattle.tree.proofs.BelowLaws.{Known, known}
use Rattle.tree.proofs.TreeLaws.{Meets, linked, entry_level}

-- R holds of what is joined where it holds of every part
joined_all : {A : Type 0} (op : A → A → A) (R : A → Type 0) → ((a b : A) → R a → R b → R (op a b)) → (f : ℕ → A) (from k : ℕ) → ((i : ℕ) → from ≤ i → i ≤ from + k → R (f i)) → R (joined op f from k)
unfolding joined
joined_all op R h f from zero r = r from (omega arith) (omega arith)
joined_all op R h f from (suc k) r = h _ _ (joined_all op R h f from k (λ i a b. r i a (omega arith))) (r (from + suc k) (omega arith) (omega arith))

-- the lesser and the greater of two are one of them
module _ (R : ℤ → Type 0) (a b : ℤ) (p : R a) (q : R b) where
  least_has : R (least a b)
  unfolding least
  least_has = go (lt_z b a)
    where
      go : (u : Bool) → R (cond u b a)
      go true = q
      go false = p

  greatest_has : R (greatest a b)
  unfolding greatest
  greatest_has = go (lt_z a b)
    where
      go : (u : Bool) → R (cond u b a)
      go true = q
      go false = p

join_ranged : (b c : Box) → Ranged b → Ranged c → Ranged (join_boxes b c)
join_ranged b c r s = record {
  x = record { lo = least_has (λ z. outside z ≡ false) _ _ r.x.lo s.x.lo; hi = greatest_has (λ z. outside z ≡ false) _ _ r.x.hi s.x.hi };
  y = record { lo = least_has (λ z. outside z ≡ false) _ _ r.y.lo s.y.lo; hi = greatest_has (λ z. outside z ≡ false) _ _ r.y.hi s.y.hi };
}

module _ {t : Table} {tree : Tree} (v : Valid t) (m : Meets t tree) where
  -- from the lower levels up
  abbrev UpTo : ℕ → Type 0
  UpTo k = (n : ℕ) → n < tree.shape.nodes → level_of tree.shape n ≤ k → Ranged (box_at tree.sides n)

  ranged_up : (k : ℕ) → UpTo k
  ranged_up zero n l b = absurd (omega (arith, (m.runs.shaped n l).level_low))
  ranged_up (suc k) n l b =
      subst Ranged (sym (m.boxed n l))
      (joined_all join_boxes Ranged join_ranged _ (start_of tree.shape n) (count_of tree.shape n - 1) (part (λ c. ranged_up k c)))
    where
      of : UpTo k → (x : Thing) → Known (places t) tree.shape x → level tree.shape x ≤ k → Ranged (box_of t tree.sides x)
      of lower (place p) h e = valid_ranged v p h
      of lower (node c) h e = lower c h.1 e

      part : UpTo k → (i : ℕ) → start_of tree.shape n ≤ i → i ≤ start_of tree.shape n + (count_of tree.shape n - 1) → Ranged (box_of t tree.sides (named tree.shape i))
      part lower i a e =
          let high : i < end_of tree.shape n = omega (arith, (m.runs.shaped n l).count_low) in
          let s : Stands tree.shape i n = record { node = l; low = a; high = high } in
          of lower (named tree.shape i) (known (linked m) i (omega (arith, run_within m.runs n l))) (omega (arith, entry_level m i n s))

  pub node_ranged : (n : ℕ) → n < tree.shape.nodes → Ranged (box_at tree.sides n)
  node_ranged n l = ranged_up 6 n l (m.runs.shaped n l).level_high

-- What an entry has, its node has; and what a node has of a kind, some entry of its run has.
-- Assumes nothing.
use mathlib.Core.Path.{◌≡◌, sym, subst}
use mathlib.Core.Bool.{true}
use mathlib.Core.Logic.{◌⊎◌, inl, inr, ⊎_elim}
use Prim.Native.Nat.{ℕ, zero, suc, ◌+◌, ◌-◌, ◌/◌, ◌^◌, ◌≤◌, ◌<◌}
use native.Mathlib.Decide.{ℕ_discrete}
use native.Mathlib.Omega.{arith}
use lib.Bits.{bit_or}
use Rattle.plane.specs.Plane.{join_boxes, Within}
use Rattle.plane.specs.Run.{joined}
use Rattle.plane.specs.declared.Box.{Box}
use Rattle.plane.proofs.BoxLaws.{box_first_in_join, box_second_in_join, within_self, within_trans}
use Rattle.plane.proofs.RunLaws.{joined_parts}
use Rattle.kit.specs.Kit.{bit, held}
use Rattle.kit.proofs.BitLaws.{or_bit, bit_small, union_assoc}
use Rattle.kit.proofs.KindLaws.{held_bit, bit_held}
use Rattle.tree.specs.Tree.{Shape, Stands, start_of, count_of, Thing, node, named, joined_run}
use Rattle.tree.proofs.OwnerLaws.{Runs}

-- R holds of what is joined where it holds of a part
record Kept {A : Type 0} (op : A → A → A) (R : A → Type 0) : Type 0 where
  left : (a b : A) → R a → R (op a b)
  right : (a b : A) → R b → R (op a b)

joined_has : {A : Type 0} (op : A → A → A) (R : A → Type 0) → Kept op R → (f : ℕ → A) (from k i : ℕ) → from ≤ i → i ≤ from + k → R (f i) → R (joined op f from k)
unfolding joined
joined_has op R h f from zero i a b r =
    let e : i ≡ from = omega arith in
    subst (λ (j : ℕ). R (f j)) e r
joined_has op R h f from (suc k) i a b r = go (ℕ_discrete i (from + suc k)) (joined_has op R h f from k i a)
  where
    go : Dec (i ≡ from + suc k) → (i ≤ from + k → R (f i) → R (joined op f from k)) → R (op (joined op f from k) (f (from + suc k)))
    go (yes e) more = h.right _ _ (subst (λ (j : ℕ). R (f j)) e r)
    go (no n) more = h.left _ _ (more (omega arith) r)

-- and the other way round, for a fact that a join has only from a part
joined_from : {A : Type 0} (op : A → A → A) (R : A → Type 0) → ((a b : A) → R (op a b) → R a ⊎ R b) → (f : ℕ → A) (from k : ℕ) → R (joined op f from k) → (i : ℕ) × ((from ≤ i) × ((i ≤ from + k) × R (f i)))
unfolding joined
joined_from op R h f from zero r = (from, (omega arith, (omega arith, r)))
joined_from op R h f from (suc k) r =
    ⊎_elim (λ l. let m = joined_from op R h f from k l in (m.0, (m.1.0, (omega (arith, m.1.1.0), m.1.1.1)))) (λ l. (from + suc k, (omega arith, (omega arith, l))))
    (h _ _ r)

-- in a tree whose nodes say their entries joined, R passes from an entry to its node
module _ {A : Type 0} (op : A → A → A) (f : Thing → A) (s : Shape) (says : (n : ℕ) → n < s.nodes → f (node n) ≡ joined_run op f s n) where
  rises : (R : A → Type 0) → Kept op R → (n i : ℕ) → Stands s i n → R (f (named s i)) → R (f (node n))
  rises R h n i t r = subst R (sym (says n t.node)) (joined_has op R h _ (start_of s n) (count_of s n - 1) i t.low (omega (arith, t.high)) r)

-- an entry's box lies in its node's
pub boxes_rise : (f : Thing → Box) (s : Shape) → ((n : ℕ) → n < s.nodes → f (node n) ≡ joined_run join_boxes f s n) → (n i : ℕ) → Stands s i n → Within (f (named s i)) (f (node n))
boxes_rise f s says n i t = rises join_boxes f s says (Within (f (named s i))) kept n i t (within_self (f (named s i)))
  where
    kept : Kept join_boxes (Within (f (named s i)))
    kept = record { left = λ a b h. within_trans h (box_first_in_join a b); right = λ a b h. within_trans h (box_second_in_join a b) }

-- a node holds a kind exactly where an entry of its run holds it
holds : ℕ → ℕ → Type 0
holds k w = held w k ≡ true

or_holds : (k a b : ℕ) → held (bit_or a b) k ≡ true → (held a k ≡ true) ⊎ (held b k ≡ true)
or_holds k a b h = go (ℕ_discrete (bit a k) 1)
  where
    go : Dec (bit a k ≡ 1) → (held a k ≡ true) ⊎ (held b k ≡ true)
    go (yes e) = inl (bit_held a k e)
    go (no n) = inr (bit_held b k (omega (arith, or_bit a b k, held_bit (bit_or a b) k h, bit_small (a / 2 ^ k), bit_small (b / 2 ^ k))))

holds_or : (k : ℕ) → Kept bit_or (holds k)
unfolding holds
holds_or k = record {
  left = λ a b h. bit_held (bit_or a b) k (omega (arith, or_bit a b k, held_bit a k h, bit_small (b / 2 ^ k)));
  right = λ a b h. bit_held (bit_or a b) k (omega (arith, or_bit a b k, held_bit b k h, bit_small (a / 2 ^ k)));
}

module _ (f : Thing → ℕ) (s : Shape) (r : Runs s) (says : (n : ℕ) → n < s.nodes → f (node n) ≡ joined_run bit_or f s n) (k : ℕ) where
  pub kinds_rise : (n i : ℕ) → Stands s i n → held (f (named s i)) k ≡ true → held (f (node n)) k ≡ true
  unfolding holds
  kinds_rise = rises bit_or f s says (holds k) (holds_or k)

  -- the entry of the run that holds it
  pub record Holder (n : ℕ) : Type 0 where
    pub i : ℕ
    pub stands : Stands s i n
    pub has : held (f (named s i)) k ≡ true

  pub kinds_from_lem : (n : ℕ) → n < s.nodes → held (f (node n)) k ≡ true → Holder n
  unfolding holds
  kinds_from_lem n l h =
      let m = joined_from bit_or (holds k) (or_holds k) (λ i. f (named s i)) (start_of s n) (count_of s n - 1) (subst (holds k) (says n l) h) in
      record { i = m.0; stands = record { node = l; low = m.1.0; high = omega (arith, m.1.1.0, (r.shaped n l).count_low) }; has = m.1.1.1 }

-- the kit word of a run is the or of the words of its two parts
pub kit_of_parts : (f : ℕ → ℕ) (from k l : ℕ) → joined bit_or f from (k + suc l) ≡ bit_or (joined bit_or f from k) (joined bit_or f (from + suc k) l)
kit_of_parts = joined_parts bit_or union_assoc

-- A column that is filled by a rule, upwards or downwards.
-- Assumes nothing.
use mathlib.Core.Path.{◌≡◌, refl, sym, ap, ◌∙◌}
use mathlib.Core.List.{List, ◌++◌}
use Prim.Native.Nat.{ℕ, ◌+◌, ◌-◌, ◌≤◌, ◌<◌}
use native.Mathlib.Decide.{ℕ_discrete}
use native.Mathlib.Omega.{arith}
use lib.ListN.{length, get_or, take, drop, set, length-set, take-append-drop}
use lib.Seq.{get_or-set_same, get_or-set_other, get_or-take, drop-set-lt, drop-drop, take_at, drop_at, length-take-le, ext_get_or}
use Rattle.order.specs.Tab.{tab}
use Rattle.order.proofs.TabLaws.{length_tab, getD_tab}

-- what stands from `from` up to `to` is filled with f, and from `to` on all is as before
pub record Filling {A : Type 0} (d : A) (f : ℕ → A) (before column : List A) (from to : ℕ) : Type 0 where
  pub room : to ≤ length before
  pub same : length column ≡ length before
  pub filled : (i : ℕ) → from ≤ i → i < to → get_or column i d ≡ f i
  pub tail : drop to column ≡ drop to before

-- with f k put at k, f i stands at i, whether that is k or not
put : {A : Type 0} (d : A) (f : ℕ → A) (column : List A) (k : ℕ) (v : A) → k < length column → v ≡ f k → (i : ℕ) → ((i ≡ k → ⊥) → get_or column i d ≡ f i) → get_or (set column k v) i d ≡ f i
put d f column k v l e i h = go (ℕ_discrete i k)
  where
    go : Dec (i ≡ k) → get_or (set column k v) i d ≡ f i
    go (yes q) = rw q (get_or-set_same column k v d l ∙ e)
    go (no n) = get_or-set_other column k i v d n ∙ h n

module _ {A : Type 0} {d : A} {f : ℕ → A} {before : List A} where
  module _ {column : List A} {from to : ℕ} (h : Filling d f before column from to) where
    pub fill_up : (v : A) → to < length before → v ≡ f to → Filling d f before (set column to v) from (to + 1)
    fill_up v l e = record {
      room = omega arith;
      same = length-set column to v ∙ h.same;
      filled = λ i a b. put d f column to v (omega arith) e i (λ n. h.filled i a (omega arith));
      tail = drop-set-lt (to + 1) column to v (omega arith) ∙ sym (drop-drop 1 to column) ∙ ap (drop 1) h.tail ∙ drop-drop 1 to before;
    }

    pub fill_down : (v : A) → 0 < from → from ≤ to → v ≡ f (from - 1) → Filling d f before (set column (from - 1) v) (from - 1) to
    fill_down v l w e = record {
      room = h.room;
      same = length-set column (from - 1) v ∙ h.same;
      filled = λ i a b. put d f column (from - 1) v (omega arith) e i (λ n. h.filled i (omega arith) b);
      tail = drop-set-lt to column (from - 1) v (omega arith) ∙ h.tail;
    }

    pub fill_done : {n : ℕ} → from ≡ 0 → to ≡ n → column ≡ tab f n ++ drop n before
    fill_done {n} z e = sym (take-append-drop n column) ∙ rw (front, sym e) (rw h.tail)
      where
        front : take n column ≡ tab f n
        front =
            let k = length-take-le n column (omega arith) in
            ext_get_or d (take n column) (tab f n) (k ∙ sym (length_tab f n)) (λ i l. get_or-take n column i d (omega arith) ∙ h.filled i (omega arith) (omega arith) ∙ sym (getD_tab f n i d (omega arith)))

-- k numbers are written at the start of a list, and n others after them
pub two_parts : {A : Type 0} (f : ℕ → A) (others before : List A) {first second : List A} (k n : ℕ) → first ≡ tab f k ++ drop k before → second ≡ take k first ++ others ++ drop (k + n) first →
    second ≡ (tab f k ++ others) ++ drop (k + n) before
two_parts f others before {first} k n p q = q ∙ rw (front, back)
  where
    front : take k first ≡ tab f k
    front = ap (take k) p ∙ take_at (tab f k) (drop k before) k (length_tab f k)

    back : drop (k + n) first ≡ drop (k + n) before
    back = sym (drop-drop n k first) ∙ ap (drop n) (ap (drop k) p ∙ drop_at (tab f k) (drop k before) k (length_tab f k)) ∙ drop-drop n k before

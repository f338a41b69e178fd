-- Which kinds a word's list has, how many, and what it is to hold every kind of a want.
-- Assumes nothing.
use mathlib.Core.Path.{◌≡◌, refl, sym, ap, subst, ◌∙◌}
use mathlib.Core.Bool.{Bool, true, false, ◌&&◌}
use mathlib.Core.Logic.{◌⊎◌, inl, inr, ⊎_elim, ◌↔◌}
use mathlib.Core.List.{List, [], ◌∷◌, Memᴰ}
use Prim.Native.Nat.{ℕ, zero, suc, ◌+◌, ◌/◌, ◌%◌, ◌^◌, ◌≤◌, ◌<◌, min}
use native.Mathlib.Nat.{div-one, div-eq_of_lt, eq-or-lt_of_le, lt_of_lt_of_le, pow-le-pow_right}
use native.Mathlib.Decide.{dec_lt}
use native.Mathlib.Omega.{arith}
use lib.Arith.{lt-one}
use lib.Bits.{bit_and}
use lib.Count.{ones, ones_in, ones_step}
use lib.Dec.{eqb}
use lib.ListN.{length, get_or}
use borrow.Author.Tests.{eqb-true, eqb-false, eq-eqb, ne_eqb}
use Rattle.kit.specs.Kit.{bit, held, keep, kinds_from, kinds, all_held}
use Rattle.kit.proofs.BitLaws.{bit_small, bit_next, bit_ext, and_bit}

-- held, as a fact on the bit
pub held_bit : (w k : ℕ) → held w k ≡ true → bit w k ≡ 1
held_bit w k e = eqb-true (bit w k) 1 e

pub bit_held : (w k : ℕ) → bit w k ≡ 1 → held w k ≡ true
bit_held w k e = eq-eqb (bit w k) 1 e

pub unheld_bit : (w k : ℕ) → held w k ≡ false → bit w k ≡ 0
unheld_bit w k e = let n = eqb-false (bit w k) 1 e in go (bit w k) (bit_small (w / 2 ^ k)) n
  where
    go : (b : ℕ) → b < 2 → (b ≡ 1 → ⊥) → b ≡ 0
    go zero l n = refl
    go (suc zero) l n = absurd (n refl)
    go (suc (suc b)) l n = absurd (omega arith)

-- ---- how many

keep_length : (w k : ℕ) (l : List ℕ) → length (keep (held w k) k l) ≡ bit w k + length l
keep_length w k l = go (held w k) refl
  where
    go : (b : Bool) → held w k ≡ b → length (keep b k l) ≡ bit w k + length l
    go true e = omega (arith, held_bit w k e)
    go false e = omega (arith, unheld_bit w k e)

count_from : (w many k : ℕ) → length (kinds_from w k many) ≡ ones_in many (w / 2 ^ k)
unfolding kinds_from ones_in
count_from w zero k = refl
count_from w (suc many) k =
    keep_length w k (kinds_from w (suc k) many) ∙ ap (λ (x : ℕ). bit w k + x) (count_from w many (suc k) ∙ ap (ones_in many) (sym (bit_next w k)))

ones_in_lem : (d n : ℕ) → n < 2 ^ d → ones_in d n ≡ ones n
unfolding ones_in ones
ones_in_lem zero n h = sym (ap ones (lt-one h))
ones_in_lem (suc d) n h = ap (λ (x : ℕ). n % 2 + x) (ones_in_lem d (n / 2) (omega arith)) ∙ sym (ones_step n)

-- the number of kinds is the number of ones
pub kinds_ones : (w : ℕ) → w < 2 ^ 64 → length (kinds w) ≡ ones w
unfolding kinds
kinds_ones w h = count_from w 64 0 ∙ ap (ones_in 64) (div-one w) ∙ ones_in_lem 64 w h

-- ---- which

in_keep : (b : Bool) (j k : ℕ) (l : List ℕ) → Memᴰ k l → Memᴰ k (keep b j l)
in_keep true j k l m = mathlib.Core.List.Memᴰ.tail m
in_keep false j k l m = m

keep_cases : (b : Bool) (j k : ℕ) (l : List ℕ) → Memᴰ k (keep b j l) → ((k ≡ j) × (b ≡ true)) ⊎ Memᴰ k l
keep_cases true j k l m = ⊎_elim (λ e. inl (e, refl)) (λ r. inr r) (mathlib.Core.List.Memᴰ.cases_cons m)
keep_cases false j k l m = inr m

member : (w many j k : ℕ) → j ≤ k → k < j + many → held w k ≡ true → Memᴰ k (kinds_from w j many)
unfolding kinds_from
member w zero j k h l e = absurd (omega arith)
member w (suc many) j k h l e =
    ⊎_elim (λ (q : j ≡ k). subst (λ (b : Bool). Memᴰ k (keep b j (kinds_from w (suc j) many))) (sym (ap (held w) q ∙ e)) (mathlib.Core.List.Memᴰ.head (sym q)))
    (λ (q : j < k). in_keep (held w j) j k (kinds_from w (suc j) many) (member w many (suc j) k q (omega arith) e))
    (eq-or-lt_of_le h)

member_held : (w many j k : ℕ) → Memᴰ k (kinds_from w j many) → (j ≤ k) × (k < j + many) × (held w k ≡ true)
unfolding kinds_from
member_held w zero j k m = absurd (mathlib.Core.List.Memᴰ.not-nil m)
member_held w (suc many) j k m =
    ⊎_elim (λ (q : (k ≡ j) × (held w j ≡ true)). (omega arith, omega arith, ap (held w) q.0 ∙ q.1))
    (λ (r : Memᴰ k (kinds_from w (suc j) many)). let h = member_held w many (suc j) k r in (omega arith, omega arith, h.2))
    (keep_cases (held w j) j k (kinds_from w (suc j) many) m)

-- the list has just the kinds that are held
pub kinds_member : (w k : ℕ) → Memᴰ k (kinds w) ↔ ((k < 64) × (held w k ≡ true))
unfolding kinds
kinds_member w k = (λ m. let h = member_held w 64 0 k m in (h.1, h.2), λ h. member w 64 0 k (omega arith) h.0 h.1)

-- ---- every kind of a list

and_true : (s t : Bool) → (s && t) ≡ true → (s ≡ true) × (t ≡ true)
and_true true t e = (refl, e)
and_true false t e = absurd (let z : ◌≡◌ {A = ℕ} 0 1 = cc in omega arith)

pub all_held_lem : (w : ℕ) (l : List ℕ) → all_held w l ≡ true → (k : ℕ) → Memᴰ k l → held w k ≡ true
unfolding all_held
all_held_lem w [] e k m = absurd (mathlib.Core.List.Memᴰ.not-nil m)
all_held_lem w (j ∷ l) e k m =
    let h = and_true (held w j) (all_held w l) e in
    ⊎_elim (λ (q : k ≡ j). ap (held w) q ∙ h.0) (λ r. all_held_lem w l h.1 k r) (mathlib.Core.List.Memᴰ.cases_cons m)

pub held_all : (w : ℕ) (l : List ℕ) → ((k : ℕ) → Memᴰ k l → held w k ≡ true) → all_held w l ≡ true
unfolding all_held
held_all w [] h = refl
held_all w (j ∷ l) h = rw (h j (mathlib.Core.List.Memᴰ.head refl)) (held_all w l (λ k m. h k (mathlib.Core.List.Memᴰ.tail m)))

-- ---- every kind of a want, by an and of words

no_high_bit : (w k : ℕ) → w < 2 ^ 64 → 64 ≤ k → bit w k ≡ 0
no_high_bit w k h l = ap (λ (x : ℕ). x % 2) (div-eq_of_lt (lt_of_lt_of_le h (pow-le-pow_right {n = 2} (omega arith) {i = 64} {j = k} l)))

and_wants : (kit want : ℕ) → want < 2 ^ 64 → all_held kit (kinds want) ≡ true → bit_and kit want ≡ want
and_wants kit want h e = bit_ext (bit_and kit want) want (λ k. and_bit kit want k ∙ least k (held want k) refl (dec_lt k 64))
  where
    least : (k : ℕ) (b : Bool) → held want k ≡ b → Dec (k < 64) → min (bit kit k) (bit want k) ≡ bit want k
    least k false q d = omega (arith, unheld_bit want k q)
    least k true q (no l) = omega (arith, no_high_bit want k h (omega arith))
    least k true q (yes l) = omega (arith, held_bit want k q, held_bit kit k (all_held_lem kit (kinds want) e k ((kinds_member want k).1 (l, q))))

wants_and : (kit want : ℕ) → bit_and kit want ≡ want → all_held kit (kinds want) ≡ true
wants_and kit want e = held_all kit (kinds want) (λ k m. bit_held kit k (has k ((kinds_member want k).0 m).1))
  where
    has : (k : ℕ) → held want k ≡ true → bit kit k ≡ 1
    has k q = omega (arith, and_bit kit want k, ap (λ (x : ℕ). bit x k) e, held_bit want k q, bit_small (kit / 2 ^ k))

pub and_is_all : (kit want : ℕ) → want < 2 ^ 64 → eqb (bit_and kit want) want ≡ all_held kit (kinds want)
and_is_all kit want h = go (all_held kit (kinds want)) refl
  where
    go : (b : Bool) → all_held kit (kinds want) ≡ b → eqb (bit_and kit want) want ≡ b
    go true e = eq-eqb _ _ (and_wants kit want h e)
    go false e = ne_eqb _ _ (λ q. let z : true ≡ false = sym (wants_and kit want q) ∙ e in let y : ◌≡◌ {A = ℕ} 0 1 = cc in omega arith)

-- ---- in ascending order

abbrev AtLeast : ℕ → List ℕ → Type 0
AtLeast k l = (j : ℕ) → j < length l → k ≤ get_or l j 0

abbrev Ascending : List ℕ → Type 0
Ascending l = (i j : ℕ) → i < j → j < length l → get_or l i 0 < get_or l j 0

keep_least : (b : Bool) (k : ℕ) (l : List ℕ) → AtLeast (suc k) l → AtLeast k (keep b k l)
keep_least false k l h j b = omega (arith, h j b)
keep_least true k l h zero b = omega arith
keep_least true k l h (suc j) b = let m : j < length l = omega arith in omega (arith, h j m)

keep_ascends : (b : Bool) (k : ℕ) (l : List ℕ) → AtLeast (suc k) l → Ascending l → Ascending (keep b k l)
keep_ascends false k l h f i j a b = f i j a b
keep_ascends true k l h f i zero a b = absurd (omega arith)
keep_ascends true k l h f zero (suc j) a b = h j (omega arith)
keep_ascends true k l h f (suc i) (suc j) a b = f i j (omega arith) (omega arith)

least_from : (w many k : ℕ) → AtLeast k (kinds_from w k many)
unfolding kinds_from
least_from w zero k = λ j b. absurd (omega arith)
least_from w (suc many) k = keep_least (held w k) k (kinds_from w (suc k) many) (least_from w many (suc k))

ascends_from : (w many k : ℕ) → Ascending (kinds_from w k many)
unfolding kinds_from
ascends_from w zero k = λ i j a b. absurd (omega arith)
ascends_from w (suc many) k = keep_ascends (held w k) k (kinds_from w (suc k) many) (least_from w many (suc k)) (ascends_from w many (suc k))

pub kinds_ascending : (w i j : ℕ) → i < j → j < length (kinds w) → get_or (kinds w) i 0 < get_or (kinds w) j 0
unfolding kinds
kinds_ascending w = ascends_from w 64 0

-- A list of kinds that is filled one by one.
-- Assumes nothing.
use mathlib.Core.Path.{◌≡◌, refl, sym, ap, ap₂, subst, ◌∙◌}
use mathlib.Core.Bool.{Bool}
use mathlib.Core.List.{List, [], ◌∷◌, ◌++◌, append_assoc, append-nil}
use Prim.Native.Nat.{ℕ, suc, ◌+◌, ◌-◌, ◌≤◌, ◌<◌}
use native.Mathlib.Numerals.{add-one}
use native.Mathlib.Omega.{arith}
use lib.ListN.{length, replicate, set, length-append}
use lib.Seq.{set_at}
use Rattle.kit.specs.Kit.{held, keep, kinds_from, kinds, padded, listed}
use Rattle.kit.specs.declared.Listed.{Listed}

pub put : (l : List ℕ) (k : ℕ) → length l < 8 → set (padded l) (length l) k ≡ padded (l ++ (k ∷ []))
unfolding padded
put l k h =
    let e : 8 - length l ≡ suc (7 - length l) = omega arith in
    let f : 8 - length (l ++ (k ∷ [])) ≡ 7 - length l = omega (arith, length-append l (k ∷ [])) in
    ap (λ (m : ℕ). set (l ++ replicate m 0) (length l) k) e
    ∙ set_at l 0 (replicate (7 - length l) 0) k (length l) refl
    ∙ sym (append_assoc l (k ∷ []) (replicate (7 - length l) 0))
    ∙ ap (λ (m : ℕ). (l ++ (k ∷ [])) ++ replicate m 0) (sym f)

abbrev as_listed : ℕ → List ℕ → Listed
as_listed n l = record { count = n; kinds = l }

-- the first n of the list are the kinds of w but for those still to come
pub record Filled (w : ℕ) (list : List ℕ) (n : ℕ) (to-come : List ℕ) : Type 0 where
  pub done : List ℕ
  pub long : length done ≡ n
  pub has : list ≡ padded done
  pub all : done ++ to-come ≡ kinds w

module _ {w : ℕ} where
  pub start : {to-come : List ℕ} → to-come ≡ kinds w → Filled w (replicate 8 0) 0 to-come
  unfolding padded
  start e = record { done = []; long = refl; has = refl; all = e }

  pub room : {list : List ℕ} {n k : ℕ} {to-come : List ℕ} → Filled w list n (k ∷ to-come) → length (kinds w) ≤ 8 → n < 8
  room {k = k} {to-come} f h = omega (arith, f.long, length-append f.done (k ∷ to-come), ap length f.all)

  pub more : {list : List ℕ} {n k : ℕ} {to-come : List ℕ} → Filled w list n (k ∷ to-come) → length (kinds w) ≤ 8 → Filled w (set list n k) (n + 1) to-come
  more {list} {n} {k} {to-come} f h = record {
    done = f.done ++ (k ∷ []);
    long = omega (arith, f.long, length-append f.done (k ∷ []));
    has = ap₂ (λ (l : List ℕ) (m : ℕ). set l m k) f.has (sym f.long) ∙ put f.done k (omega (arith, room f h, f.long));
    all = append_assoc f.done (k ∷ []) to-come ∙ f.all;
  }

  pub full : {list : List ℕ} {n : ℕ} → Filled w list n [] → as_listed n list ≡ listed (kinds w)
  full f = let e = sym (append-nil f.done) ∙ f.all in ap₂ as_listed (sym f.long ∙ ap length e) (f.has ∙ ap padded e)

  pub refilled : {list : List ℕ} {n : ℕ} {a b : List ℕ} → a ≡ b → Filled w list n a → Filled w list n b
  refilled {list} {n} e f = subst (Filled w list n) e f

  -- the same where arms of code have met
  pub met : {list list' : List ℕ} {n n' : ℕ} {a : List ℕ} → list' ≡ list → n' ≡ n → Filled w list n a → Filled w list' n' a
  met e h f = record { done = f.done; long = f.long ∙ sym h; has = e ∙ f.has; all = f.all }

-- what is to come, kind by kind
pub from_first : (w : ℕ) → kinds_from w 0 64 ≡ kinds w
unfolding kinds
from_first w = refl

pub from_next : (w k : ℕ) → k < 64 → kinds_from w k (64 - k) ≡ keep (held w k) k (kinds_from w (k + 1) (64 - (k + 1)))
unfolding kinds_from
from_next w k h =
    let e : 64 - k ≡ suc (64 - (k + 1)) = omega arith in
    ap (kinds_from w k) e ∙ ap (λ (m : ℕ). keep (held w k) k (kinds_from w m (64 - (k + 1)))) (sym (add-one k))

pub from_last : (w k : ℕ) → 64 ≤ k → kinds_from w k (64 - k) ≡ []
unfolding kinds_from
from_last w k h = let e : 64 - k ≡ 0 = omega arith in ap (kinds_from w k) e

pub keep_is : (w k : ℕ) (l : List ℕ) {b : Bool} → held w k ≡ b → keep (held w k) k l ≡ keep b k l
keep_is w k l e = ap (λ (b : Bool). keep b k l) e

-- The lines of a group: of its kinds and places, pair by pair.
-- Assumes nothing.
use Rattle.std.proofs.Common.{◌≡◌, refl, sym, ap, ◌∙◌, Bool, true, false, cond, List, [], ◌∷◌, ◌++◌, ℕ, zero, suc, ◌+◌, add-one, ◌<◌, ◌≤◌, length, get_or, drop, Option, subst}
use Rattle.std.proofs.lemmas.Iterator.{YieldsList}
use Rattle.std.proofs.lemmas.List.{at_drop_more, at_drop_all}
use Rattle.std.specs.List.{filter, range_with_len, zip}
use Rattle.kit.specs.Kit.{held, keep, kinds, kinds_from}
use Rattle.report.specs.Answer.{need_lines, group_lines}

-- the lines of pairs
pub pair_lines : List (ℕ × ℕ) → List ℕ
pair_lines [] = []
pair_lines (p ∷ pairs) = need_lines p.0 p.1 ++ pair_lines pairs

pub as_pairs : (kinds places : List ℕ) → group_lines kinds places ≡ pair_lines (zip kinds places)
unfolding group_lines pair_lines
as_pairs [] places = refl
as_pairs (k ∷ kinds) [] = refl
as_pairs (k ∷ kinds) (p ∷ places) = ap (λ l. need_lines k p ++ l) (as_pairs kinds places)

kept : (b : Bool) (k : ℕ) (l m : List ℕ) → l ≡ m → keep b k l ≡ cond b (k ∷ m) m
kept true k l m e = ap (λ l. k ∷ l) e
kept false k l m e = e

filtered : (w k n : ℕ) → kinds_from w k n ≡ filter (held w) (range_with_len k n)
unfolding kinds_from
filtered w k zero = refl
filtered w k (suc n) = kept (held w k) k _ _ (filtered w (suc k) n ∙ ap (λ j. filter (held w) (range_with_len j n)) (sym (add-one k)))

pub kinds_filtered : (w : ℕ) → kinds w ≡ filter (held w) (range_with_len 0 64)
unfolding kinds
kinds_filtered w = filtered w 0 64

-- the same list by another name
pub yields_as : {S A B : Type 0} {steps : S → Option A → S → Type 0} {v : A → B} {s : S} {xs ys : List B} → xs ≡ ys → YieldsList steps v s xs → YieldsList steps v s ys
yields_as {steps = steps} {v = v} {s = s} e y = subst (λ l. YieldsList steps v s l) e y

-- the pairs from n on, where there is one more, and where there is none
pub next_pair : (pairs : List (ℕ × ℕ)) (n k p : ℕ) → n < length pairs → (k, p) ≡ get_or pairs n (k, p) → pair_lines (drop n pairs) ≡ need_lines k p ++ pair_lines (drop (n + 1) pairs)
unfolding pair_lines
next_pair pairs n k p h e = at_drop_more pair_lines pairs n (k, p) h ∙ ap (λ (q : ℕ × ℕ). need_lines q.0 q.1 ++ pair_lines (drop (n + 1) pairs)) (sym e)

pub no_pair : (pairs : List (ℕ × ℕ)) (n : ℕ) → length pairs ≤ n → pair_lines (drop n pairs) ≡ []
unfolding pair_lines
no_pair pairs n h = at_drop_all pair_lines pairs n h

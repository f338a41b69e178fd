-- Words held against their limits.
-- Assumes nothing.
use Rattle.std.proofs.Common.{◌≡◌, ◌∙◌, refl, sym, ap, subst, Bool, true, false, cond, ◌&&◌, leb, ltb, List, [], ◌∷◌, ℕ, zero, suc, ◌+◌, ◌≤◌, ◌<◌, length, get_or, arith}
use Rattle.std.specs.List.{list_all, zip}
use mathlib.Core.Bool.{true≢false}
use native.Mathlib.Nat.{not-suc-le-zero, le_of_suc-le-suc}
use native.Mathlib.Decide.{dec_le}
use borrow.Author.Tests.{lt-ltb, le-ltb, lt-leb, le-leb}
use Rattle.words.specs.Lines.{limits, fit}

-- a word is not above its limit
both : (most word : ℕ) (rest : Bool) → leb word most && rest ≡ cond (ltb most word) false rest
both most word rest = go (dec_le word most)
  where
    go : Dec (word ≤ most) → leb word most && rest ≡ cond (ltb most word) false rest
    go (yes l) = rw (le-leb word most l, le-ltb most word l)
    go (no n) = rw (lt-leb word most (omega arith), lt-ltb most word (omega arith))

pub fit_all : (limits words : List ℕ) → length limits ≤ length words → list_all (λ (p : ℕ × ℕ). leb p.0 p.1) (zip words limits) ≡ fit limits words
unfolding fit
fit_all [] [] h = refl
fit_all [] (word ∷ words) h = refl
fit_all (most ∷ limits) [] h = absurd (omega arith)
fit_all (most ∷ limits) (word ∷ words) h =
    ap (λ b. leb word most && b) (fit_all limits words (omega arith)) ∙ both most word (fit limits words)

pub fit_short : (limits words : List ℕ) → length words < length limits → fit limits words ≡ false
unfolding fit
fit_short [] words h = absurd (omega arith)
fit_short (most ∷ limits) [] h = refl
fit_short (most ∷ limits) (word ∷ words) h = ap (cond (ltb most word) false) (fit_short limits words (omega arith)) ∙ go (ltb most word)
  where
    go : (b : Bool) → cond b false false ≡ false
    go true = refl
    go false = refl

-- what fits is there, and is not above its limit
not_above : (most word : ℕ) (rest : Bool) → cond (ltb most word) false rest ≡ true → (word ≤ most) × (rest ≡ true)
not_above most word rest e = go (dec_le word most)
  where
    go : Dec (word ≤ most) → (word ≤ most) × (rest ≡ true)
    go (yes l) = (l, subst (λ (b : Bool). cond b false rest ≡ true) (le-ltb most word l) e)
    go (no l) = let a : most < word = omega arith in absurd (true≢false (sym (subst (λ (b : Bool). cond b false rest ≡ true) (lt-ltb most word a) e)))

pub fit_at : (limits words : List ℕ) → fit limits words ≡ true → (k : ℕ) → k < length limits → (k < length words) × (get_or words k 0 ≤ get_or limits k 0)
unfolding fit
fit_at [] words e k h = absurd (not-suc-le-zero h)
fit_at (most ∷ limits) [] e k h = absurd (true≢false (sym e))
fit_at (most ∷ limits) (word ∷ words) e zero h = (omega arith, (not_above most word (fit limits words) e).0)
fit_at (most ∷ limits) (word ∷ words) e (suc k) h =
    let r = fit_at limits words (not_above most word (fit limits words) e).1 k (le_of_suc-le-suc h) in
    (omega (arith, r.0), r.1)

-- the words of the eight places
pub place_at : (words : List ℕ) → fit limits words ≡ true → (i : ℕ) → i < 8 → (2 + i < length words) × (get_or words (2 + i) 0 ≤ 65535)
place_at words e i h = (omega (arith, (fit_at limits words e (2 + i) (omega arith)).0), omega (arith, (fit_at limits words e (2 + i) (omega arith)).1, wide i h))
  where
    wide : (i : ℕ) → i < 8 → get_or limits (2 + i) 0 ≡ 65535
    wide zero h = refl
    wide (suc zero) h = refl
    wide (suc (suc zero)) h = refl
    wide (suc (suc (suc zero))) h = refl
    wide (suc (suc (suc (suc zero)))) h = refl
    wide (suc (suc (suc (suc (suc zero))))) h = refl
    wide (suc (suc (suc (suc (suc (suc zero)))))) h = refl
    wide (suc (suc (suc (suc (suc (suc (suc zero))))))) h = refl
    wide (suc (suc (suc (suc (suc (suc (suc (suc i)))))))) h = absurd (omega arith)

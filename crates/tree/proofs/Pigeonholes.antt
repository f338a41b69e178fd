-- Pigeonholes: n numbers below n, no two alike, are all the numbers below n.
-- Assumes nothing.
use Prim.Native.Nat.{ℕ, zero, suc, ◌≤◌, ◌<◌}
use mathlib.Core.Path.{◌≡◌, sym, ◌∙◌}
use mathlib.Core.Logic.Dec
use native.Mathlib.Decide.{dec_lt, ℕ_discrete}
use native.Mathlib.Omega.{arith}
use native.Mathlib.Nat.{not-suc-le-zero}
use Rattle.verdict.specs.First.{first_not}
use Rattle.verdict.proofs.FirstLaws.{First, first_found}

-- f takes the numbers below n to numbers below m, no two to one
pub record Into (f : ℕ → ℕ) (n m : ℕ) : Type 0 where
  pub below : (i : ℕ) → i < n → f i < m
  pub apart : (i j : ℕ) → i < j → j < n → f i ≡ f j → ⊥

-- two numbers that f takes to one are one
pub same_of : (f : ℕ → ℕ) (n m : ℕ) → Into f n m → (i j : ℕ) → i < n → j < n → f i ≡ f j → i ≡ j
same_of f n m h i j a b e = go (dec_lt i j) (dec_lt j i)
  where
    go : Dec (i < j) → Dec (j < i) → i ≡ j
    go (yes l) d = absurd (h.apart i j l b e)
    go (no l) (yes k) = absurd (h.apart j i k a (sym e))
    go (no l) (no k) = omega arith

abbrev choose : {A : Type 0} → Dec A → ℕ → ℕ → ℕ
choose (yes _) a b = a
choose (no _) a b = b

-- f, with what f takes k to put for m
swap : (ℕ → ℕ) → ℕ → ℕ → ℕ → ℕ
swap f k m i = choose (ℕ_discrete (f i) m) (f k) (f i)

-- one hole less and one number less
fewer : (f : ℕ → ℕ) (n m : ℕ) → Into f (suc n) (suc m) → Into (swap f n m) n m
unfolding swap
fewer f n m h = record { below = λ i l. low i l (ℕ_discrete (f i) m); apart = λ i j l b. differ i j l b (ℕ_discrete (f i) m) (ℕ_discrete (f j) m) }
  where
    low : (i : ℕ) → i < n → (d : Dec (f i ≡ m)) → choose d (f n) (f i) < m
    low i l (yes e) =
        let other : f n ≡ m → ⊥ = λ q. h.apart i n l (omega arith) (e ∙ sym q) in
        omega (arith, h.below n (omega arith))
    low i l (no e) = omega (arith, h.below i (omega arith), e)

    differ : (i j : ℕ) → i < j → j < n → (d : Dec (f i ≡ m)) (d' : Dec (f j ≡ m)) → choose d (f n) (f i) ≡ choose d' (f n) (f j) → ⊥
    differ i j l b (yes e) (yes e') p = h.apart i j l (omega arith) (e ∙ sym e')
    differ i j l b (yes e) (no e') p = h.apart j n b (omega arith) (sym p)
    differ i j l b (no e) (yes e') p = h.apart i n (omega arith) (omega arith) p
    differ i j l b (no e) (no e') p = h.apart i j l (omega arith) p

-- there are no more numbers than holes
pub no_more : (m n : ℕ) (f : ℕ → ℕ) → Into f n m → n ≤ m
no_more zero zero f h = omega arith
no_more zero (suc n) f h = absurd (not-suc-le-zero (h.below 0 (omega arith)))
no_more (suc m) zero f h = omega arith
no_more (suc m) (suc n) f h = omega (arith, no_more m n (swap f n m) (fewer f n m h))

-- f, and y for n
plus : (ℕ → ℕ) → ℕ → ℕ → ℕ → ℕ
plus f n y i = choose (ℕ_discrete i n) y (f i)

module _ (f : ℕ → ℕ) (n : ℕ) (h : Into f n n) (y : ℕ) (b : y < n) where
  -- were y missed, there would be room for one number more
  more : ((i : ℕ) → i < n → f i ≡ y → ⊥) → Into (plus f n y) (suc n) n
  unfolding plus
  more miss = record { below = λ i l. low i l (ℕ_discrete i n); apart = λ i j l k. differ i j l k (ℕ_discrete i n) (ℕ_discrete j n) }
    where
      low : (i : ℕ) → i < suc n → (d : Dec (i ≡ n)) → choose d y (f i) < n
      low i l (yes e) = b
      low i l (no e) = h.below i (omega arith)

      differ : (i j : ℕ) → i < j → j < suc n → (d : Dec (i ≡ n)) (d' : Dec (j ≡ n)) → choose d y (f i) ≡ choose d' y (f j) → ⊥
      differ i j l k (yes e) d p = omega arith
      differ i j l k (no e) (yes e') p = miss i (omega arith) p
      differ i j l k (no e) (no e') p = h.apart i j l (omega arith) p

  pub hit : (i : ℕ) × ((i < n) × (f i ≡ y))
  hit = go (first_not test 0 n) (first_found test 0 n)
    where
      test : (i : ℕ) → Dec (¬ (f i ≡ y))
      test i = Dec.not (ℕ_discrete (f i) y)

      go : (r : ℕ) → First (λ i. ¬ (f i ≡ y)) 0 n r → (i : ℕ) × ((i < n) × (f i ≡ y))
      go r g = at (dec_lt r n) (ℕ_discrete (f r) y)
        where
          at : Dec (r < n) → Dec (f r ≡ y) → (i : ℕ) × ((i < n) × (f i ≡ y))
          at (yes l) (yes e) = (r, (l, e))
          at (yes l) (no e) = absurd (g.fails (omega arith) e)
          at (no l) d =
              let z : suc n ≤ n = no_more n (suc n) (plus f n y) (more (λ i k. g.before i (omega arith) (omega arith))) in
              let w : ⊥ = omega arith in
              absurd w

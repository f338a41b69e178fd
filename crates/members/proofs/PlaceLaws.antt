-- Groups in eight places: read and stored one by one, and compared in dictionary order.
-- Assumes nothing.
use mathlib.Core.Path.{◌≡◌, refl, sym, ap, subst, ◌∙◌}
use mathlib.Core.Logic.{◌≢◌}
use mathlib.Core.Bool.{Bool, true, false, cond}
use mathlib.Core.List.{List}
use Prim.Native.Nat.{ℕ, ◌+◌, ◌-◌, ◌≤◌, ◌<◌}
use native.Mathlib.Decide.{dec_lt, ℕ_discrete}
use native.Mathlib.Omega.{arith}
use lib.ListN.{length, get_or, take, set, replicate, length-append, length-set, length-replicate, get_or-replicate, get_or-append}
use lib.Seq.{ext_get_or, length-take-le, get_or-take, get_or-set_same, get_or-set_other, get_or-append-add}
use borrow.Author.Tests.{lt-ltb, le-ltb}
use Rattle.std.specs.Prelude.{Some}
use Rattle.std.specs.Cmp.Lexicographic.{slice_partial_cmp}
use Rattle.std.specs.Ordering.{nat_cmp, is_lt, is_some_and}
use Rattle.std.proofs.lemmas.Bool.Decides.{nat_tests}
use Rattle.std.proofs.lemmas.Cmp.{same_from_slice_cmp_tested}
use Rattle.walks.specs.Order.{before}
use Rattle.members.specs.Best.{best_at, improved}
use Rattle.members.specs.declared.Best.{Best}
use Rattle.kit.specs.Kit.{padded}

-- dictionary order is that of the library's lists
pub before_is : (xs ys : List ℕ) (r : Bool) → r ≡ is_some_and is_lt (slice_partial_cmp (λ x y. Some (nat_cmp x y)) xs ys) → r ≡ before xs ys
unfolding before
before_is = same_from_slice_cmp_tested nat_cmp is_lt before refl (λ _ _. refl) (λ _ _. refl) (λ x y xs ys o h. grind (arith, nat_tests))

-- what a group makes of the best
module _ (g l : List ℕ) (d e : ℕ) where
  less_at : d < e → improved g d (best_at true e l) ≡ best_at true d g
  unfolding improved
  less_at h = rw (improved, lt-ltb d e h)

  more_at : e < d → improved g d (best_at true e l) ≡ best_at true e l
  unfolding improved
  more_at h = let h' : e ≤ d = omega arith in rw (improved, le-ltb d e h', lt-ltb e d h)

  equal_at : d ≡ e → improved g d (best_at true e l) ≡ cond (before g l) (best_at true d g) (best_at true e l)
  unfolding improved
  equal_at h = let i : e ≤ d = omega arith in let j : d ≤ e = omega arith in rw (improved, le-ltb d e i, le-ltb e d j) (either (before g l))
    where
      either : (r : Bool) → elim r [ true ↦ best_at true d g | false ↦ best_at true e l ] ≡ cond r (best_at true d g) (best_at true e l)
      either true = refl
      either false = refl

module _ (g : List ℕ) (d : ℕ) (b : Best) where
  pub first : b.known ≡ false → improved g d b ≡ best_at true d g
  unfolding improved
  first n = rw (improved, n)

  module _ (known : b.known ≡ true) where
    is : best_at true b.squared b.places ≡ b
    is = ap (λ (k : Bool). best_at k b.squared b.places) (sym known)

    pub less : d < b.squared → improved g d b ≡ best_at true d g
    less h = subst (λ (q : Best). improved g d q ≡ best_at true d g) is (less_at g b.places d b.squared h)

    pub more : b.squared < d → improved g d b ≡ b
    more h = subst (λ (q : Best). improved g d q ≡ q) is (more_at g b.places d b.squared h)

    pub equal : d ≡ b.squared → improved g d b ≡ cond (before g b.places) (best_at true d g) b
    equal h = subst (λ (q : Best). improved g d q ≡ cond (before g b.places) (best_at true d g) q) is (equal_at g b.places d b.squared h)

-- ---- a list that 0 fills up

padded_long : (l : List ℕ) → length l ≤ 8 → length (padded l) ≡ 8
unfolding padded
padded_long l h = omega (arith, length-append l (replicate (8 - length l) 0), length-replicate {A = ℕ} (8 - length l) 0)

padded_in : (l : List ℕ) (j : ℕ) → j < length l → get_or (padded l) j 0 ≡ get_or l j 0
unfolding padded
padded_in l j h = get_or-append l (replicate (8 - length l) 0) 0 j h

padded_out : (l : List ℕ) (j : ℕ) → length l ≤ j → j < 8 → get_or (padded l) j 0 ≡ 0
unfolding padded
padded_out l j h k =
    let e : j ≡ length l + (j - length l) = omega arith in
    ap (λ (n : ℕ). get_or (padded l) n 0) e ∙ get_or-append-add l (replicate (8 - length l) 0) (j - length l) 0 ∙ get_or-replicate (8 - length l) (j - length l) 0 0 (omega arith)

-- ---- the first m of eight numbers, of which number i is p

module _ (m : ℕ) (numbers : List ℕ) (i p : ℕ) (eight : length numbers ≡ 8) (most : m ≤ 8) where
  many : length (take m (set numbers i p)) ≡ m
  many = length-take-le m (set numbers i p) (omega (arith, length-set numbers i p))

  pub group_long : length (padded (take m (set numbers i p))) ≡ 8
  group_long = padded_long (take m (set numbers i p)) (omega (arith, many))

  inside : (j : ℕ) → j < m → get_or (padded (take m (set numbers i p))) j 0 ≡ get_or (set numbers i p) j 0
  inside j h = padded_in (take m (set numbers i p)) j (omega (arith, many)) ∙ get_or-take m (set numbers i p) j 0 h

  pub group_at : i < m → get_or (padded (take m (set numbers i p))) i 0 ≡ p
  group_at h = inside i h ∙ get_or-set_same numbers i p 0 (omega arith)

  pub group_other : (j : ℕ) → j ≢ i → j < m → get_or (padded (take m (set numbers i p))) j 0 ≡ get_or numbers j 0
  group_other j n h = inside j h ∙ get_or-set_other numbers i j p 0 n

  pub group_rest : (j : ℕ) → m ≤ j → j < 8 → get_or (padded (take m (set numbers i p))) j 0 ≡ 0
  group_rest j h k = padded_out (take m (set numbers i p)) j (omega (arith, many)) k

-- stored one by one
pub made : (m : ℕ) (numbers : List ℕ) (i p : ℕ) → length numbers ≡ 8 → m ≤ 8 → i < m → (places : List ℕ) → length places ≡ 8 → ((k : ℕ) → k < m → get_or places k 0 ≡ get_or numbers k 0) → ((k : ℕ) → m ≤ k → k < 8 → get_or places k 0 ≡ 0) →
    set places i p ≡ padded (take m (set numbers i p))
made m numbers i p eight most h places long stored rest = ext_get_or 0 (set places i p) (padded (take m (set numbers i p))) (length-set places i p ∙ long ∙ sym (group_long m numbers i p eight most)) (λ j l. at j (omega (arith, l, length-set places i p, long)) (ℕ_discrete j i) (dec_lt j m))
  where
    at : (j : ℕ) → j < 8 → Dec (j ≡ i) → Dec (j < m) → get_or (set places i p) j 0 ≡ get_or (padded (take m (set numbers i p))) j 0
    at j l (yes e) d = rw e (get_or-set_same places i p 0 (omega (arith, long)) ∙ sym (group_at m numbers i p eight most h))
    at j l (no n) (yes d) = get_or-set_other places i j p 0 n ∙ stored j d ∙ sym (group_other m numbers i p eight most j n d)
    at j l (no n) (no d) = get_or-set_other places i j p 0 n ∙ rest j (omega arith) l ∙ sym (group_rest m numbers i p eight most j (omega arith) l)

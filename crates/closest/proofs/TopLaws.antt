-- The topmost member is the leftmost of the highest level.
-- Assumes nothing.
use mathlib.Core.Path.{◌≡◌, refl}
use mathlib.Core.Bool.{Bool, true, false}
use mathlib.Core.List.{List, [], ◌∷◌}
use Prim.Native.Nat.{ℕ, suc, ◌+◌, ◌-◌, ◌≤◌, ◌<◌}
use native.Mathlib.Decide.{dec_lt}
use native.Mathlib.Omega.{arith}
use lib.Dec.{ltb}
use borrow.Author.Tests.{ltb-true, ltb-false}
use Rattle.tree.specs.Tree.{Shape, Thing, level}
use Rattle.closest.specs.Candidate.{member, lead, topmost}

-- no member is of a higher level than member i, and those before it are of lower ones; a place, which has level 0, stands past the end
pub record Top (s : Shape) (c : List Thing) (i : ℕ) : Type 0 where
  pub highest : (k : ℕ) → level s (member c k) ≤ level s (member c i)
  pub leftmost : (k : ℕ) → k < i → level s (member c k) < level s (member c i)

-- the same of the first n, with v for the level of member i; that v may be less lets it begin at 0
record Leads (s : Shape) (c : List Thing) (i v n : ℕ) : Type 0 where
  reached : v ≤ level s (member c i)
  highest : (k : ℕ) → k < n → level s (member c k) ≤ v
  leftmost : (k : ℕ) → k < i → level s (member c k) < v

module _ (s : Shape) (c : List Thing) where
  -- the rest d of c begins at n
  lead_top : (i v n : ℕ) (d : List Thing) → ((k m : ℕ) → m ≡ n + k → level s (member c m) ≡ level s (member d k)) → Leads s c i v n → Top s c (lead s i v n d)
  unfolding lead
  lead_top i v n [] rest l = record { highest = λ k. go k (dec_lt k n); leftmost = λ k b. omega (arith, l.leftmost k b) }
    where
      go : (k : ℕ) → Dec (k < n) → level s (member c k) ≤ level s (member c i)
      go k (yes b) = omega (arith, l.highest k b)
      go k (no b) = omega (arith, rest (k - n) k (omega arith))
  lead_top i v n (x ∷ d) rest l = go (ltb v (level s x)) refl (λ j u. lead_top j u (suc n) d (λ k m e. rest (suc k) m (omega arith)))
    where
      all : (u k : ℕ) → v ≤ u → level s x ≤ u → k < suc n → Dec (k < n) → level s (member c k) ≤ u
      all u k a b h (yes e) = omega (arith, l.highest k e)
      all u k a b h (no e) = omega (arith, rest 0 k (omega arith))

      go : (b : Bool) → ltb v (level s x) ≡ b → ((j u : ℕ) → Leads s c j u (suc n) → Top s c (lead s j u (suc n) d)) →
          Top s c (elim b [ true ↦ lead s n (level s x) (suc n) d | false ↦ lead s i v (suc n) d ])
      go true e more =
          let a = ltb-true v (level s x) e in
          more n (level s x)
          (record { reached = omega (arith, rest 0 n (omega arith)); highest = λ k b. all (level s x) k (omega arith) (omega arith) b (dec_lt k n); leftmost = λ k b. omega (arith, l.highest k b) })
      go false e more =
          let a = ltb-false v (level s x) e in
          more i v (record { reached = l.reached; highest = λ k b. all v k (omega arith) a b (dec_lt k n); leftmost = l.leftmost })

  pub topmost_is : Top s c (topmost s c)
  unfolding topmost
  topmost_is = lead_top 0 0 0 c (λ k m e. let same : m ≡ k = omega arith in rw same) (record { reached = omega arith; highest = λ k b. absurd (omega arith); leftmost = λ k b. absurd (omega arith) })

  -- where it is a place, all are
  pub all_places : level s (member c (topmost s c)) ≡ 0 → (i : ℕ) → level s (member c i) ≡ 0
  all_places e i = omega (arith, topmost_is.highest i)

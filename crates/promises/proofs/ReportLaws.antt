-- What is reported of a list of rules: its verdict, and nothing else.
-- Assumes nothing.
use mathlib.Core.Path.{◌≡◌, refl, sym, ◌∙◌}
use mathlib.Core.Bool.{Bool, true, ◌&&◌}
use mathlib.Core.List.{List, [], ◌∷◌, ◌++◌, Memᴰ}
use Prim.Native.Nat.{ℕ, ◌+◌, ◌≤◌, ◌<◌}
use native.Mathlib.Decide.{dec_lt}
use native.Mathlib.Omega.{arith}
use lib.Dec.{T, leb, leb→le}
use Rattle.verdict.specs.Rules.{Rule, lowest, verdict, says, Verdict}
use Rattle.verdict.proofs.FirstLaws.{first_found, first_all}
use Rattle.verdict.proofs.RuleLaws.{broken, held}
use Rattle.lines.proofs.PartLaws.{both}
use Rattle.promises.specs.Reports.{Reports, success, refusal, further, codes_of}

pub reports : (rs : List Rule) → Reports rs (verdict rs)
unfolding verdict lowest
reports [] = success
reports (r ∷ rs) = go (dec_lt (lowest r) (r.from + r.many)) (reports rs)
  where
    go : (d : Dec (lowest r < r.from + r.many)) → Reports rs (verdict rs) → Reports (r ∷ rs) (elim d [ yes _ ↦ says r.code (lowest r) | no _ ↦ verdict rs ])
    go (yes l) more = let f = first_found r.decides r.from r.many in refusal r rs (lowest r) f.above l f.before (f.fails l)
    go (no n) more = further r rs (verdict rs) (first_all r.decides r.from r.many (omega arith)) more

pub reports_only : {rs : List Rule} {v : Verdict} → Reports rs v → v ≡ verdict rs
unfolding verdict
reports_only success = refl
reports_only (refusal r rs k a b p n) = sym (broken r rs k (record { above = a; within = omega arith; before = p; fails = λ _. n }) b)
reports_only (further r rs v h m) = reports_only m ∙ sym (held r rs h)

abbrev number_of : Verdict → ℕ
number_of v = v.code

-- the number reported is 0 or that of a rule
pub codes : (rs : List Rule) → Memᴰ (verdict rs).code (0 ∷ codes_of rs)
unfolding verdict codes_of
codes [] = Memᴰ.head refl
codes (r ∷ rs) = go (dec_lt (lowest r) (r.from + r.many)) (codes rs)
  where
    go : (d : Dec (lowest r < r.from + r.many)) → Memᴰ (verdict rs).code (0 ∷ codes_of rs) → Memᴰ (number_of (elim d [ yes _ ↦ says r.code (lowest r) | no _ ↦ verdict rs ])) (0 ∷ r.code ∷ codes_of rs)
    go (yes l) m = Memᴰ.tail (Memᴰ.head refl)
    go (no n) (Memᴰ.head e) = Memᴰ.head e
    go (no n) (Memᴰ.tail m) = Memᴰ.tail (Memᴰ.tail m)

-- so it is not above any of them
abbrev pub at_most : ℕ → List ℕ → Bool
at_most b [] = true
at_most b (a ∷ l) = leb a b && at_most b l

pub member_le : {c b : ℕ} (l : List ℕ) → T (at_most b l) → Memᴰ c l → c ≤ b
member_le [] h m = elim m [ ]
member_le {b = b} (a ∷ l) h (Memᴰ.head e) = omega (arith, leb→le a b (both (leb a b) (at_most b l) h).0, e)
member_le {b = b} (a ∷ l) h (Memᴰ.tail m) = member_le l (both (leb a b) (at_most b l) h).1 m

pub member_more : {c : ℕ} {l : List ℕ} (m : List ℕ) → Memᴰ c l → Memᴰ c (l ++ m)
member_more m (Memᴰ.head e) = Memᴰ.head e
member_more m (Memᴰ.tail h) = Memᴰ.tail (member_more m h)

pub member_after : {c : ℕ} (l : List ℕ) {m : List ℕ} → Memᴰ c m → Memᴰ c (l ++ m)
member_after [] h = h
member_after (a ∷ l) h = Memᴰ.tail (member_after l h)

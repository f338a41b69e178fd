-- The table of places and its rules 11 and 12.
-- Assumes nothing.
use Rattle.std.specs.Prelude.{◌≡◌, List, [], ◌∷◌, ℕ, ◌≤◌, ℤ, pos, length, get_or}
use Rattle.std.proofs.Math.Bool.{Bool-discrete}
use Rattle.std.proofs.Math.Logic.Dec
use Rattle.std.proofs.Math.Decide.{dec_le, ℕ_discrete}
use Rattle.std.proofs.Common.{lit≤}
use Rattle.plane.specs.Plane.{point, InRange, Ranged}
use Rattle.plane.specs.declared.Box.{Box}
use Rattle.plane.specs.declared.Span.{Span}
use Rattle.verdict.specs.Decided.{dec_by}
use Rattle.verdict.specs.Rules.{Rule, AllHold}

-- the columns of a table; its places are numbered from 0
pub record Table : Type 0 where
  pub x : List ℤ
  pub y : List ℤ
  pub kit : List ℕ

abbrev pub table : List ℤ → List ℤ → List ℕ → Table
table x y kit = record { x = x; y = y; kit = kit }

-- there are as many places as the columns are long
abbrev pub places : Table → ℕ
places t = length t.x

-- a place's box is its point, and its kit word what the column says
abbrev pub box_of : Table → ℕ → Box
box_of t p = point (get_or t.x p (pos 0)) (get_or t.y p (pos 0))

abbrev pub kit_of : Table → ℕ → ℕ
kit_of t p = get_or t.kit p 0

-- 11: the columns do not differ in length, and do not exceed 4,096
pub record Even (t : Table) : Type 0 where
  pub y : length t.y ≡ places t
  pub kit : length t.kit ≡ places t
  pub few : places t ≤ 4096

-- that is decided, and so is 12: the coordinates of a place are in range
unfoldable pub dec_even : (t : Table) → Dec (Even t)
unfolding Dec.and ℕ_discrete dec_le
dec_even t =
    dec_by (λ w. record { y = w.0; kit = w.1.0; few = w.1.1 }) (λ h. (h.y, (h.kit, h.few)))
    (Dec.and (ℕ_discrete _ _) (Dec.and (ℕ_discrete _ _) (dec_le _ _)))

unfoldable pub dec_in_range : (s : Span) → Dec (InRange s)
unfolding Dec.and
dec_in_range s = dec_by (λ w. record { lo = w.0; hi = w.1 }) (λ h. (h.lo, h.hi)) (Dec.and (Bool-discrete _ _) (Bool-discrete _ _))

unfoldable pub dec_ranged : (b : Box) → Dec (Ranged b)
unfolding Dec.and dec_in_range
dec_ranged b = dec_by (λ w. record { x = w.0; y = w.1 }) (λ h. (h.x, h.y)) (Dec.and (dec_in_range _) (dec_in_range _))

abbrev pub rule11 : Table → Rule
rule11 t = record { code = 11; numbered = lit≤ tt; from = 0; many = 1; Asks = λ _. Even t; decides = λ _. dec_even t }

abbrev pub rule12 : Table → Rule
rule12 t = record { code = 12; numbered = lit≤ tt; from = 0; many = places t; Asks = λ p. Ranged (box_of t p); decides = λ p. dec_ranged (box_of t p) }

abbrev pub table_rules : Table → List Rule
table_rules t = rule11 t ∷ rule12 t ∷ []

-- a table that no rule refuses
abbrev pub Valid : Table → Type 0
Valid t = AllHold (table_rules t)

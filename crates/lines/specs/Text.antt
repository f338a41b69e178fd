-- Numbers as text; a text is a list of bytes.
-- Assumes nothing.
use Rattle.std.specs.Prelude.{ℕ, zero, suc, ◌+◌, ◌-◌, ◌*◌, ◌/◌, ◌≤◌, ◌<◌, ◌≡◌, List, [], ◌∷◌, ℤ, pos, negsuc}
use Rattle.std.proofs.Math.Decide.{dec_lt, ℕ_discrete}
use Prim.Native.Char.{code}
use Prim.Native.String.{String, [] as «end», ◌∷◌ as ◌then◌}
use Rattle.io.specs.Digits.{hex_digit_ascii, last_digits}

-- the bytes of a plain text
abbrev pub ascii : String → List ℕ
ascii «end» = []
ascii (c then s) = code c ∷ ascii s

-- how many decimal digits a number has, if they are at most suc k
unfoldable pub width_in : ℕ → ℕ → ℕ
unfolding dec_lt
width_in zero n = 1
width_in (suc k) n = elim (dec_lt n 10) [ yes _ ↦ 1 | no _ ↦ suc (width_in k (n / 10)) ]

-- a number below 10 ^ 20 has at most 20
unfoldable pub width : ℕ → ℕ
width n = width_in 19 n

-- a number in decimal: no plus, no leading zeros
unfoldable pub decimal : ℕ → List ℕ
decimal n = last_digits 10 (width n) n

-- a whole number in decimal, with a minus (45) where it is below 0: no `-0`
unfoldable pub signed : ℤ → List ℕ
signed (pos n) = decimal n
signed (negsuc n) = 45 ∷ decimal (suc n)

-- 64 bits as 16 lower-case hexadecimal digits
unfoldable pub hex : ℕ → List ℕ
hex n = last_digits 16 16 n

-- what a digit stands for
unfoldable pub unglyph : ℕ → ℕ
unfolding dec_lt
unglyph c = elim (dec_lt c 58) [ yes _ ↦ c - 48 | no _ ↦ c - 87 ]

-- a digit of base b
pub record Digit (b c : ℕ) : Type 0 where
  pub least : 48 ≤ c
  pub back : hex_digit_ascii (unglyph c) ≡ c
  pub below : unglyph c < b

-- digits with no zero (48) in front, but for the zero itself
abbrev pub NoZero : List ℕ → Type 0
NoZero [] = ⊥
NoZero (c ∷ []) = Unit {0}
NoZero (c ∷ (d ∷ t)) = c ≡ 48 → ⊥

-- what digits stand for in base b, after digits that stand for a
unfoldable pub value_from : ℕ → ℕ → List ℕ → ℕ
value_from b a [] = a
value_from b a (c ∷ t) = value_from b (a * b + unglyph c) t

abbrev pub minus : ℕ → ℤ
minus zero = pos 0
minus (suc n) = negsuc n

-- what decimal digits stand for, with a minus before them or not
unfoldable pub signed_value : List ℕ → ℤ
unfolding ℕ_discrete
signed_value [] = pos 0
signed_value (c ∷ t) = elim (ℕ_discrete c 45) [ yes _ ↦ minus (value_from 10 0 t) | no _ ↦ pos (value_from 10 0 (c ∷ t)) ]

-- Kit words and wants: which kinds they hold. The kinds of two words together are their bitwise or, `bit_or` of the library.
-- Assumes nothing.
use Rattle.std.specs.Prelude.{Bool, true, false, ◌&&◌, List, [], ◌∷◌, ◌++◌, ℕ, zero, suc, ◌-◌, ◌/◌, ◌%◌, ◌^◌, eqb, length, replicate}
use Rattle.kit.specs.declared.Listed.{Listed}

-- bit k of a word
abbrev pub bit : ℕ → ℕ → ℕ
bit word k = word / 2 ^ k % 2

-- a word holds kind k
abbrev pub held : ℕ → ℕ → Bool
held word k = eqb (bit word k) 1

abbrev pub keep : Bool → ℕ → List ℕ → List ℕ
keep true k l = k ∷ l
keep false k l = l

-- of the `many` kinds from k on, those that a word holds, ascending
unfoldable pub kinds_from : ℕ → ℕ → ℕ → List ℕ
kinds_from word k zero = []
kinds_from word k (suc many) = keep (held word k) k (kinds_from word (suc k) many)

-- the kinds of a word
unfoldable pub kinds : ℕ → List ℕ
kinds word = kinds_from word 0 64

-- a word holds every kind of a list
unfoldable pub all_held : ℕ → List ℕ → Bool
all_held word [] = true
all_held word (k ∷ l) = held word k && all_held word l

-- a list of at most eight kinds as the code has it: zeros up to eight
unfoldable pub padded : List ℕ → List ℕ
padded l = l ++ replicate (8 - length l) 0

abbrev pub listed : List ℕ → Listed
listed l = record { count = length l; kinds = padded l }

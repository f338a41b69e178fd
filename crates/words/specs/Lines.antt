-- The words of a search, taken back for its printed answer.
-- Assumes nothing.
use Rattle.std.specs.Prelude.{Bool, true, false, cond, List, [], ◌∷◌, map, ℕ, ltb, eqb, get_or}
use Rattle.found.specs.declared.Found.{Found}
use Rattle.report.specs.Answer.{answer_lines}

-- the largest number that each word of a search may be: code, at, eight places, squared, steps, known
abbrev pub limits : List ℕ
limits =
    255 ∷ 18446744073709551615
    ∷ 65535 ∷ 65535 ∷ 65535 ∷ 65535 ∷ 65535 ∷ 65535 ∷ 65535 ∷ 65535
    ∷ 18446744073709551615 ∷ 4294967295 ∷ 1 ∷ []

-- there is a word for each limit, and none is above its limit
unfoldable pub fit : List ℕ → List ℕ → Bool
fit [] words = true
fit (most ∷ limits) [] = false
fit (most ∷ limits) (word ∷ words) = cond (ltb most word) false (fit limits words)

-- the search that the words are of
abbrev pub found_of : List ℕ → Found
found_of w =
    record {
      code = get_or w 0 0;
      at = get_or w 1 0;
      places = map (λ i. get_or w i 0) (2 ∷ 3 ∷ 4 ∷ 5 ∷ 6 ∷ 7 ∷ 8 ∷ 9 ∷ []);
      squared = get_or w 10 0;
      steps = get_or w 11 0;
      known = eqb (get_or w 12 0) 1;
    }

-- the lines for the words of a search; none where a word is missing or above its limit
abbrev pub lines_of : List ℕ → ℕ → List ℕ
lines_of w want = cond (fit limits w) (answer_lines (found_of w) want) []

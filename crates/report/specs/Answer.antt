-- The printed answer of a search, as bytes.
-- Assumes nothing.
use Rattle.std.specs.Prelude.{ℕ, cond, List, [], ◌∷◌, ◌++◌, eqb}
use Prim.Native.String.{String}
use Rattle.verdict.specs.Families.{family_of}
use Rattle.verdict.specs.declared.From.{From}
use Rattle.verdict.specs.declared.From.TheVariants.{Query, Table, Tree, Search, Room, Sheet, NoRefusal}
use Rattle.kit.specs.Kit.{kinds}
use Rattle.found.specs.declared.Found.{Found}
use Rattle.lines.specs.Text.{ascii, decimal}
use Rattle.print.specs.Puts.{line_of}
use Rattle.report.specs.Distance.{root_of}

-- a line with a word, and one with a number
abbrev pub word_line : String → List ℕ → List ℕ
word_line key word = line_of (ascii key) word

abbrev pub number_line : String → ℕ → List ℕ
number_line key n = line_of (ascii key) (decimal n)

abbrev pub end_line : List ℕ
end_line = word_line "end=" (ascii "answer")

-- a wanted kind, and the place that stands for it
abbrev pub need_lines : ℕ → ℕ → List ℕ
need_lines kind place = number_line "need=" kind ++ number_line "place=" place

-- so for each kind that has a place
unfoldable pub group_lines : List ℕ → List ℕ → List ℕ
group_lines [] places = []
group_lines (k ∷ kinds) [] = []
group_lines (k ∷ kinds) (p ∷ places) = need_lines k p ++ group_lines kinds places

-- what a group measures
abbrev pub measure_lines : ℕ → ℕ → List ℕ
measure_lines squared steps = number_line "squared=" squared ++ (number_line "distance=" (root_of squared) ++ number_line "steps=" steps)

-- a group was found
unfoldable pub found_lines : ℕ → ℕ → List ℕ → List ℕ → List ℕ
found_lines squared steps kinds places = word_line "answer=" (ascii "found") ++ (measure_lines squared steps ++ (group_lines kinds places ++ end_line))

-- none, or spent
unfoldable pub stopped_lines : List ℕ → ℕ → List ℕ
stopped_lines word steps = word_line "answer=" word ++ (number_line "steps=" steps ++ end_line)

-- the word of a family; `none` for a number that reports no refusal
abbrev pub family_word : From → List ℕ
family_word Query = ascii "query"
family_word Table = ascii "table"
family_word Tree = ascii "tree"
family_word Search = ascii "search"
family_word Room = ascii "room"
family_word Sheet = ascii "sheet"
family_word NoRefusal = ascii "none"

-- a refusal: its number, its family and where
unfoldable pub refused_lines : ℕ → ℕ → List ℕ
refused_lines code at =
    word_line "answer=" (ascii "refused")
    ++ (number_line "code=" code
    ++ (word_line "from=" (family_word (family_of code))
    ++ (number_line "at=" at ++ end_line)))

-- the lines for what a search of a want gave, by its code
unfoldable pub answer_lines : Found → ℕ → List ℕ
answer_lines f want =
    cond (eqb f.code 0) (found_lines f.squared f.steps (kinds want) f.places)
    (cond (eqb f.code 31) (stopped_lines (ascii "none") f.steps)
    (cond (eqb f.code 32) (stopped_lines (ascii "spent") f.steps)
    (refused_lines f.code f.at)))

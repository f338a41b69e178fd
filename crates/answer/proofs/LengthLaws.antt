-- How long an answer can be: no number has more than 20 digits, and a group has at most eight places.
-- Assumes nothing.
use mathlib.Core.Bool.{Bool, true, false, cond}
use mathlib.Core.List.{List, [], ◌∷◌, ◌++◌}
use Prim.Native.Nat.{ℕ, ◌*◌, ◌≤◌}
use native.Mathlib.Omega.{arith}
use lib.Dec.{eqb}
use lib.ListN.{length, length-append}
use Rattle.verdict.specs.Families.{family_of}
use Rattle.verdict.specs.declared.From.{From}
use Rattle.verdict.specs.declared.From.TheVariants.{Query, Table, Tree, Search, Room, Sheet, NoRefusal}
use Rattle.kit.specs.Kit.{kinds}
use Rattle.found.specs.declared.Found.{Found}
use Rattle.lines.specs.Text.{ascii, decimal}
use Rattle.lines.proofs.NumberLaws.{decimal_length, width_most}
use Rattle.report.specs.Answer.{word_line, number_line, end_line, need_lines, group_lines, measure_lines, found_lines, stopped_lines, family_word, refused_lines, answer_lines}
use Rattle.report.specs.Distance.{root_of}

number_most : (n : ℕ) → length (decimal n ++ (10 ∷ [])) ≤ 21
number_most n = omega (arith, length-append (decimal n) (10 ∷ []), decimal_length n, width_most n)

need_most : (k p : ℕ) → length (need_lines k p) ≤ 53
need_most k p = omega (arith, length-append (number_line "need=" k) (number_line "place=" p), number_most k, number_most p)

group_most : (kinds places : List ℕ) → length (group_lines kinds places) ≤ 53 * length places
unfolding group_lines
group_most [] places = omega arith
group_most (k ∷ kinds) [] = omega arith
group_most (k ∷ kinds) (p ∷ places) = omega (arith, length-append (need_lines k p) (group_lines kinds places), need_most k p, group_most kinds places)

measure_most : (squared steps : ℕ) → length (measure_lines squared steps) ≤ 86
measure_most squared steps =
    omega (
      arith,
      length-append (number_line "squared=" squared) (number_line "distance=" (root_of squared) ++ number_line "steps=" steps),
      length-append (number_line "distance=" (root_of squared)) (number_line "steps=" steps),
      number_most squared,
      number_most (root_of squared),
      number_most steps,
    )

pub found_most : (squared steps : ℕ) (kinds places : List ℕ) → length places ≤ 8 → length (found_lines squared steps kinds places) ≤ 534
unfolding found_lines
found_most squared steps kinds places h =
    omega (
      arith,
      length-append (measure_lines squared steps) (group_lines kinds places ++ end_line),
      length-append (group_lines kinds places) end_line,
      measure_most squared steps,
      group_most kinds places,
    )

pub stopped_most : (word : List ℕ) (steps : ℕ) → length word ≤ 5 → length (stopped_lines word steps) ≤ 534
unfolding stopped_lines
stopped_most word steps h =
    omega (
      arith,
      length-append (word_line "answer=" word) (number_line "steps=" steps ++ end_line),
      length-append word (10 ∷ []),
      length-append (number_line "steps=" steps) end_line,
      number_most steps,
    )

family_most : (f : From) → length (word_line "from=" (family_word f)) ≤ 12
family_most Query = omega arith
family_most Table = omega arith
family_most Tree = omega arith
family_most Search = omega arith
family_most Room = omega arith
family_most Sheet = omega arith
family_most NoRefusal = omega arith

pub refused_most : (code at : ℕ) → length (refused_lines code at) ≤ 534
unfolding refused_lines
refused_most code at =
    let from = word_line "from=" (family_word (family_of code)) in
    omega (
      arith,
      length-append (number_line "code=" code) (from ++ (number_line "at=" at ++ end_line)),
      length-append from (number_line "at=" at ++ end_line),
      length-append (number_line "at=" at) end_line,
      number_most code,
      family_most (family_of code),
      number_most at,
    )

-- an answer whose group has at most eight places is at most 534 bytes long
pub answer_most : (f : Found) (want : ℕ) → length f.places ≤ 8 → length (answer_lines f want) ≤ 534
unfolding answer_lines
answer_most f want h = go (eqb f.code 0) (eqb f.code 31) (eqb f.code 32)
  where
    go : (a b c : Bool)
        → length (cond a (found_lines f.squared f.steps (kinds want) f.places) (cond b (stopped_lines (ascii "none") f.steps) (cond c (stopped_lines (ascii "spent") f.steps) (refused_lines f.code f.at)))) ≤ 534
    go true b c = found_most f.squared f.steps (kinds want) f.places h
    go false true c = stopped_most (ascii "none") f.steps (omega arith)
    go false false true = stopped_most (ascii "spent") f.steps (omega arith)
    go false false false = refused_most f.code f.at

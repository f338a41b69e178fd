-- The words that a search gave, taken back, are that search: its lines are the lines of the answer.
-- Assumes nothing.
use mathlib.Core.Path.{◌≡◌, refl, sym, ap, subst, ◌∙◌}
use mathlib.Core.Bool.{Bool, true, false}
use mathlib.Core.List.{List, [], ◌∷◌, ◌++◌}
use Prim.Native.Nat.{ℕ, ◌≤◌, ◌<◌}
use lib.Dec.{eqb, lit≤}
use lib.ListN.{length, get_or}
use borrow.Author.Tests.{le-ltb}
use Rattle.found.specs.declared.Found.{Found}
use Rattle.report.specs.Answer.{answer_lines}
use Rattle.words.specs.Words.{flag, found_words}
use Rattle.words.specs.Lines.{limits, fit, found_of, lines_of}
use Rattle.words.proofs.WordLaws.{eight}
use Rattle.words.proofs.LineLaws.{some_lines}

-- the numbers of a search fit its fields
pub record Fair (f : Found) : Type 0 where
  pub code : f.code ≤ 255
  pub at : f.at ≤ 18446744073709551615
  pub many : length f.places ≡ 8
  pub places : (i : ℕ) → i < 8 → get_or f.places i 0 ≤ 65535
  pub squared : f.squared ≤ 18446744073709551615
  pub steps : f.steps ≤ 4294967295

-- no word is above its limit
abbrev Each : List ℕ → List ℕ → Type 0
Each [] words = Unit {0}
Each (most ∷ limits) [] = ⊥
Each (most ∷ limits) (word ∷ words) = (word ≤ most) × Each limits words

each_fit : (limits words : List ℕ) → Each limits words → fit limits words ≡ true
unfolding fit
each_fit [] words e = refl
each_fit (most ∷ limits) [] e = absurd e
each_fit (most ∷ limits) (word ∷ words) e = rw (le-ltb most word e.0) (each_fit limits words e.1)

flag_low : (b : Bool) → flag b ≤ 1
flag_low true = lit≤ tt
flag_low false = lit≤ tt

flag_back : (b : Bool) → eqb (flag b) 1 ≡ b
flag_back true = refl
flag_back false = refl

module _ (f : Found) (fair : Fair f) (rest : List ℕ) where
  -- the words, place by place
  abbrev spelled : List ℕ
  spelled = f.code ∷ f.at ∷ get_or f.places 0 0 ∷ get_or f.places 1 0 ∷ get_or f.places 2 0 ∷ get_or f.places 3 0 ∷ get_or f.places 4 0 ∷ get_or f.places 5 0 ∷ get_or f.places 6 0 ∷ get_or f.places 7 0 ∷ f.squared ∷ f.steps ∷ flag f.known ∷ rest

  spelled_is : spelled ≡ found_words f ++ rest
  spelled_is = ap (λ (l : List ℕ). f.code ∷ f.at ∷ (l ++ f.squared ∷ f.steps ∷ flag f.known ∷ []) ++ rest) (eight f.places fair.many)

  all_fit : fit limits spelled ≡ true
  all_fit =
      let p = fair.places in
      each_fit limits spelled
      (fair.code, (fair.at, (p 0 (lit≤ tt), (p 1 (lit≤ tt), (p 2 (lit≤ tt), (p 3 (lit≤ tt), (p 4 (lit≤ tt), (p 5 (lit≤ tt), (p 6 (lit≤ tt), (p 7 (lit≤ tt), (fair.squared, (fair.steps, (flag_low f.known, tt)))))))))))))

  back : found_of spelled ≡ f
  back =
      ap (λ (l : List ℕ). record { code = f.code; at = f.at; places = l; squared = f.squared; steps = f.steps; known = eqb (flag f.known) 1 }) (eight f.places fair.many)
      ∙ ap (λ (k : Bool). record { code = f.code; at = f.at; places = f.places; squared = f.squared; steps = f.steps; known = k }) (flag_back f.known)

  pub lines_back : (want : ℕ) → lines_of (found_words f ++ rest) want ≡ answer_lines f want
  lines_back want = subst (λ (w : List ℕ). lines_of w want ≡ answer_lines f want) spelled_is (sym (some_lines spelled want f (sym back) all_fit))

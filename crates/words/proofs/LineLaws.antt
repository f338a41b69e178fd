-- The lines for the words of a search.
-- Assumes nothing.
use mathlib.Core.Path.{◌≡◌, refl, sym, ap, ◌∙◌}
use mathlib.Core.Bool.{Bool, true, false, cond}
use mathlib.Core.List.{List, [], ◌++◌}
use Prim.Native.Nat.{ℕ, ◌≤◌}
use native.Mathlib.Decide.{dec_le}
use lib.ListN.{length, drop}
use Rattle.found.specs.declared.Found.{Found}
use Rattle.report.specs.Answer.{answer_lines}
use Rattle.answer.specs.Lent.{laid, holding}
use Rattle.words.specs.Lines.{limits, fit, found_of, lines_of}
use Rattle.words.proofs.WordLaws.{relaid}

nothing_laid : (old : List ℕ) → (◌≡◌ {A = ℕ} 0 (laid [] old)) × (old ≡ holding [] old)
unfolding laid holding
nothing_laid old = go (dec_le 0 (length old))
  where
    go : (d : Dec (0 ≤ length old)) → (◌≡◌ {A = ℕ} 0 (elim d [ yes _ ↦ 0 | no _ ↦ 0 ])) × (old ≡ elim d [ yes _ ↦ [] ++ drop 0 old | no _ ↦ old ])
    go (yes _) = (refl, refl)
    go (no _) = (refl, refl)

module _ (words : List ℕ) (want : ℕ) where
  lines_by : {b : Bool} → fit limits words ≡ b → lines_of words want ≡ cond b (answer_lines (found_of words) want) []
  lines_by e = ap (λ (b : Bool). cond b (answer_lines (found_of words) want) []) e

  pub no_lines : (old : List ℕ) → fit limits words ≡ false → (◌≡◌ {A = ℕ} 0 (laid (lines_of words want) old)) × (old ≡ holding (lines_of words want) old)
  no_lines old e = relaid old (sym (lines_by e)) (nothing_laid old)

  pub some_lines : (found : Found) → found ≡ found_of words → fit limits words ≡ true → answer_lines found want ≡ lines_of words want
  some_lines found f e = ap (λ (g : Found). answer_lines g want) f ∙ sym (lines_by e)

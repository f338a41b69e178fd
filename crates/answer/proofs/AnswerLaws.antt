-- Which lines an answer has, by its code.
-- Assumes nothing.
use mathlib.Core.Path.{◌≡◌}
use Prim.Native.Nat.{ℕ}
use borrow.Author.Tests.{eq-eqb, ne_eqb}
use Rattle.kit.specs.Kit.{kinds}
use Rattle.found.specs.declared.Found.{Found}
use Rattle.lines.specs.Text.{ascii}
use Rattle.report.specs.Answer.{found_lines, stopped_lines, refused_lines, answer_lines}

module _ (f : Found) (want : ℕ) where
  pub of_found : f.code ≡ 0 → found_lines f.squared f.steps (kinds want) f.places ≡ answer_lines f want
  unfolding answer_lines
  of_found e = rw (eq-eqb f.code 0 e)

  pub of_none : (f.code ≡ 0 → ⊥) → f.code ≡ 31 → stopped_lines (ascii "none") f.steps ≡ answer_lines f want
  unfolding answer_lines
  of_none n e = rw (ne_eqb f.code 0 n, eq-eqb f.code 31 e)

  pub of_spent : (f.code ≡ 0 → ⊥) → (f.code ≡ 31 → ⊥) → f.code ≡ 32 → stopped_lines (ascii "spent") f.steps ≡ answer_lines f want
  unfolding answer_lines
  of_spent n m e = rw (ne_eqb f.code 0 n, ne_eqb f.code 31 m, eq-eqb f.code 32 e)

  pub of_refused : (f.code ≡ 0 → ⊥) → (f.code ≡ 31 → ⊥) → (f.code ≡ 32 → ⊥) → refused_lines f.code f.at ≡ answer_lines f want
  unfolding answer_lines
  of_refused n m l = rw (ne_eqb f.code 0 n, ne_eqb f.code 31 m, ne_eqb f.code 32 l)

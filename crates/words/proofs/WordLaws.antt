-- Answers as words.
-- Assumes nothing.
use mathlib.Core.Path.{◌≡◌, refl, ap, ◌∙◌}
use mathlib.Core.Bool.{Bool, true, false}
use mathlib.Core.List.{List, [], ◌∷◌}
use Prim.Native.Nat.{ℕ}
use native.Mathlib.Omega.{arith}
use lib.ListN.{length, get_or}
use mir.Val.{bool_byte}
use Rattle.answer.specs.Lent.{laid, holding}
use Rattle.words.specs.Words.{flag}

-- equal words are laid alike
pub relaid : {a b : List ℕ} (old : List ℕ) {r : ℕ} {out : List ℕ} → a ≡ b → (r ≡ laid a old) × (out ≡ holding a old) → (r ≡ laid b old) × (out ≡ holding b old)
relaid old e h = (h.0 ∙ ap (λ (w : List ℕ). laid w old) e, h.1 ∙ ap (λ (w : List ℕ). holding w old) e)

-- eight elements, one by one
pub eight : (l : List ℕ) → length l ≡ 8 → (get_or l 0 0 ∷ get_or l 1 0 ∷ get_or l 2 0 ∷ get_or l 3 0 ∷ get_or l 4 0 ∷ get_or l 5 0 ∷ get_or l 6 0 ∷ get_or l 7 0 ∷ []) ≡ l
eight (a ∷ b ∷ c ∷ d ∷ e ∷ f ∷ g ∷ h ∷ []) l = refl
eight [] l = absurd (omega arith)
eight (a ∷ []) l = absurd (omega arith)
eight (a ∷ b ∷ []) l = absurd (omega arith)
eight (a ∷ b ∷ c ∷ []) l = absurd (omega arith)
eight (a ∷ b ∷ c ∷ d ∷ []) l = absurd (omega arith)
eight (a ∷ b ∷ c ∷ d ∷ e ∷ []) l = absurd (omega arith)
eight (a ∷ b ∷ c ∷ d ∷ e ∷ f ∷ []) l = absurd (omega arith)
eight (a ∷ b ∷ c ∷ d ∷ e ∷ f ∷ g ∷ []) l = absurd (omega arith)
eight (a ∷ b ∷ c ∷ d ∷ e ∷ f ∷ g ∷ h ∷ i ∷ m) l = absurd (omega arith)

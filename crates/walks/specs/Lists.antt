-- Members of a list, and a list gone through from the left.
-- Assumes nothing.
use Rattle.std.specs.Prelude.{◌≡◌, List, [], ◌∷◌, ◌++◌, ◌⊎◌}

-- a is one of a list
abbrev pub In : {A : Type 0} → A → List A → Type 0
In a [] = ⊥
In a (b ∷ l) = (a ≡ b) ⊎ In a l

-- what each of a list gives, end to end
unfoldable pub each : {A B : Type 0} → (A → List B) → List A → List B
each g [] = []
each g (a ∷ l) = g a ++ each g l

-- a list gone through from the left
unfoldable pub fold : {A B : Type 0} → (B → A → B) → B → List A → B
fold f b [] = b
fold f b (a ∷ l) = fold f (f b a) l

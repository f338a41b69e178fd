-- The numbers and words in which an answer reaches C.
-- Assumes nothing.
use Rattle.std.specs.Prelude.{Bool, cond, List, [], ◌∷◌, ◌++◌, ℕ}
use Rattle.plane.specs.Plane.{Measured}
use Rattle.verdict.specs.Rules.{Verdict}
use Rattle.verdict.specs.declared.From.{From}
use Rattle.verdict.specs.declared.From.TheVariants.{Query, Table, Tree, Search, Room, Sheet, NoRefusal}
use Rattle.found.specs.declared.Found.{Found}
use Rattle.scan.specs.Read.{Told}

-- the number of a family
unfoldable pub family_number : From → ℕ
family_number NoRefusal = 0
family_number Query = 1
family_number Table = 2
family_number Tree = 3
family_number Search = 4
family_number Room = 5
family_number Sheet = 6

-- code, at, squared
abbrev pub measured_words : Measured → List ℕ
measured_words m = m.code ∷ m.at ∷ m.squared ∷ []

-- code, at
abbrev pub verdict_words : Verdict → List ℕ
verdict_words v = v.code ∷ v.at ∷ []

-- yes is 1, no is 0
abbrev pub flag : Bool → ℕ
flag b = cond b 1 0

-- code, at, the eight places, squared, steps, known
abbrev pub found_words : Found → List ℕ
found_words f = f.code ∷ f.at ∷ f.places ++ f.squared ∷ f.steps ∷ flag f.known ∷ []

-- code, at, places, want, budget
abbrev pub sheet_words : Told → List ℕ
sheet_words s = s.code ∷ s.at ∷ s.places ∷ s.want ∷ s.budget ∷ []

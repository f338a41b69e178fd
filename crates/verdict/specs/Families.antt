-- The family of a refusal number, by ranges.
-- Assumes nothing.
use Rattle.std.specs.Prelude.{Bool, cond, ◌&&◌, List, [], ◌∷◌, ℕ, leb}
use Rattle.verdict.specs.declared.From.{From}
use Rattle.verdict.specs.declared.From.TheVariants.{Query, Table, Tree, Search, Room, Sheet, NoRefusal}

-- the numbers from low to high, and where they come from
pub record Range : Type 0 where
  pub low : ℕ
  pub high : ℕ
  pub from : From

abbrev range : ℕ → ℕ → From → Range
range low high from = record { low = low; high = high; from = from }

abbrev pub ranges : List Range
ranges =
    range 1 2 Query
    ∷ range 11 12 Table
    ∷ range 21 26 Tree
    ∷ range 31 33 Search
    ∷ range 41 41 Room
    ∷ range 51 53 Sheet
    ∷ range 54 55 Room
    ∷ []

abbrev pub among : Range → ℕ → Bool
among r code = leb r.low code && leb code r.high

unfoldable pub family_in : List Range → ℕ → From
family_in [] code = NoRefusal
family_in (r ∷ rs) code = cond (among r code) r.from (family_in rs code)

abbrev pub family_of : ℕ → From
family_of = family_in ranges

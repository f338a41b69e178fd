-- The writer's answers computed: the last byte of room decides, and the table comes first.
-- Assumes nothing.
use Prim.Native.Nat.{ℕ}
use mathlib.Core.Path.{◌≡◌, refl}
use mathlib.Core.Logic.Dec
use mathlib.Core.List.{List, [], ◌∷◌, map, zip, zip_with}
use native.Mathlib.Decide.{dec_le, dec_lt, ℕ_discrete}
use lib.IntN.{ℤ, pos, negsuc}
use Rattle.plane.specs.Plane.{outside}
use Rattle.table.specs.Table.{table, dec_even, dec_in_range, dec_ranged}
use Rattle.verdict.specs.First.{first_not}
use Rattle.verdict.specs.Rules.{lowest, verdict, says}
use Rattle.verdict.specs.Rules.{Verdict}
use Rattle.lines.specs.Text.{decimal, hex, signed, width, width_in}
use Rattle.lines.specs.Part.{several}
use Rattle.rows.specs.Sheet.{Held, place_part, query_part, sheet_part, sheet_bytes, asked}
use Rattle.sheet.specs.Write.{write_rules}

-- no place, and one place
abbrev nothing : Held
nothing = asked (table [] [] []) 0 0

abbrev lone : ℤ → Held
lone x = asked (table (x ∷ []) (negsuc 999999 ∷ []) (1 ∷ [])) 3 4294967295

-- what is to be written, the room, and the answer
abbrev soundings : List (Held × (ℕ × Verdict))
soundings =
    (nothing, (58, says 0 0))
    ∷ (nothing, (57, says 54 0))
    ∷ (lone (pos 1000000), (117, says 0 0))
    ∷ (lone (pos 1000000), (116, says 54 0))
    ∷ (lone (pos 1000001), (0, says 12 0))
    ∷ (asked (table (pos 1000001 ∷ []) [] []) 0 0, (0, says 11 0))
    ∷ []

sounded : map (λ w. verdict (write_rules w.0 w.1.0)) soundings ≡ map (λ w. w.1.1) soundings
unfolding verdict lowest first_not dec_even dec_in_range dec_ranged outside Dec.and ℕ_discrete dec_le dec_lt sheet_bytes sheet_part place_part query_part several zip zip_with decimal hex signed width width_in
sounded = refl

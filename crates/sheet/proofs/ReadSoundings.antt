-- Reading computed: a sheet of one place, into columns with room for it and without.
-- Assumes nothing.
use Prim.Native.Nat.{ℕ}
use mathlib.Core.Path.{◌≡◌, refl}
use mathlib.Core.Logic.Dec
use mathlib.Core.List.{List, [], ◌∷◌, map, zip, zip_with}
use Prim.Native.String.{String}
use native.Mathlib.Decide.{dec_le, dec_lt, ℕ_discrete}
use lib.IntN.{ℤ, pos, negsuc}
use Rattle.table.specs.Table.{table}
use Rattle.lines.specs.Text.{ascii, decimal, hex, signed, signed_value, width, width_in, value_from, unglyph}
use Rattle.lines.specs.Form.{in_form, same}
use Rattle.lines.specs.Line.{cut, due, read_line}
use Rattle.lines.specs.Part.{several, Outcome, fault, accepted, read_all}
use Rattle.rows.specs.Sheet.{Held, place_part, query_part, sheet_part, read_sheet}
use Rattle.scan.specs.Read.{reading, sheet_of, column_after}

abbrev one : String
one = "sheet=1\nplaces=1\nplace=0\nx=-7\ny=8\nkit=0000000000000003\nwant=0000000000000001\nbudget=9\nend=sheet\n"

abbrev place : Held
place = record { table = table (negsuc 6 ∷ []) (pos 8 ∷ []) (3 ∷ []); want = 1; budget = 9 }

-- bytes, the columns that are lent, and what reading comes to: 54 after all other faults
abbrev soundings : List (String × ((List ℤ × (List ℤ × List ℕ)) × Outcome Held))
soundings =
    (one, ((pos 1 ∷ pos 2 ∷ [], (pos 3 ∷ [], 4 ∷ [])), accepted place))
    ∷ (one, (([], (pos 3 ∷ [], 4 ∷ [])), fault 54 0))
    ∷ (one, ((pos 1 ∷ [], ([], 4 ∷ [])), fault 54 0))
    ∷ (one, ((pos 1 ∷ [], (pos 3 ∷ [], [])), fault 54 0))
    ∷ ("sheet=1\nplaces=1\nplace=0\nx=-0\n", (([], ([], [])), fault 52 4))
    ∷ ("sheet=1\nplaces=0\nwant=0000000000000001\nbudget=9\nend=sheet\n", (([], ([], [])), accepted (record { table = table [] [] []; want = 1; budget = 9 })))
    ∷ []

sounded : map (λ w. reading (ascii w.0) w.1.0.0 w.1.0.1.0 w.1.0.1.1) soundings ≡ map (λ w. w.1.1) soundings
unfolding read_sheet read_all sheet_part place_part query_part several zip zip_with decimal hex signed signed_value width width_in dec_lt dec_le ℕ_discrete in_form Dec.and value_from unglyph cut due read_line same
sounded = refl

-- the result, and a column afterwards
result : sheet_of (accepted place) ≡ record { code = 0; at = 0; places = 1; want = 1; budget = 9 }
result = refl

stored : column_after (λ h. h.table.x) (accepted place) (pos 1 ∷ pos 2 ∷ []) ≡ negsuc 6 ∷ pos 2 ∷ []
stored = refl

kept : column_after (λ h. h.table.x) (fault 54 0) (pos 1 ∷ pos 2 ∷ []) ≡ pos 1 ∷ pos 2 ∷ []
kept = refl

-- Sheets computed: harbour H as bytes, and what damaged sheets give.
-- Assumes nothing.
use mathlib.Core.Path.{◌≡◌, refl}
use mathlib.Core.Logic.Dec
use mathlib.Core.List.{List, [], ◌∷◌, map, zip, zip_with}
use Prim.Native.String.{String}
use native.Mathlib.Decide.{dec_le, dec_lt, ℕ_discrete}
use lib.IntN.{pos}
use Rattle.table.specs.Table.{table}
use Rattle.lines.specs.Text.{ascii, decimal, hex, signed, signed_value, width, width_in, value_from, unglyph}
use Rattle.lines.specs.Form.{in_form, same}
use Rattle.lines.specs.Line.{cut, due, read_line}
use Rattle.lines.specs.Part.{several, Outcome, fault, accepted, read_all}
use Rattle.rows.specs.Sheet.{Held, place_part, query_part, sheet_part, sheet_bytes, read_sheet}

-- harbour H with the want {0, 1} and the budget 7
abbrev harbour : Held
harbour = record { table = table (pos 0 ∷ pos 3 ∷ pos 10 ∷ pos 10 ∷ []) (pos 0 ∷ pos 4 ∷ pos 0 ∷ pos 5 ∷ []) (1 ∷ 2 ∷ 1 ∷ 2 ∷ []); want = 3; budget = 7 }

harbour_bytes : sheet_bytes harbour ≡ ascii "sheet=1\nplaces=4\nplace=0\nx=0\ny=0\nkit=0000000000000001\nplace=1\nx=3\ny=4\nkit=0000000000000002\nplace=2\nx=10\ny=0\nkit=0000000000000001\nplace=3\nx=10\ny=5\nkit=0000000000000002\nwant=0000000000000003\nbudget=7\nend=sheet\n"
unfolding sheet_bytes sheet_part place_part query_part several zip zip_with decimal hex signed width width_in dec_lt
harbour_bytes = refl

-- bytes, and what reading them gives: the lowest line decides
abbrev soundings : List (String × Outcome Held)
soundings =
    ("", fault 51 1)
    ∷ ("sheet=1\n", fault 51 2)
    ∷ ("sheet=2\n", fault 52 1)
    ∷ ("sheet=1\nplaces=4097\n", fault 52 2)
    ∷ ("sheet=1\nplaces=1\nplace=1\n", fault 52 3)
    ∷ ("sheet=1\nplaces=1\nplace=0\ny=0\n", fault 51 4)
    ∷ ("sheet=1\nplaces=0\nwant=3\nbudgets=7", fault 52 3)
    ∷ ("sheet=1\nplaces=0\nwant=0000000000000003\nbudget=4294967296\n", fault 52 4)
    ∷ ("sheet=1\nplaces=0\nwant=0000000000000003\nbudget=7\nend=sheets\n", fault 52 5)
    ∷ ("sheet=1\nplaces=0\nwant=0000000000000003\nbudget=7\nend=sheet\n\n", fault 53 6)
    ∷ ("sheet=1\nplaces=1\nplace=0\nx=0\ny=0\nkit=0000000000000000\nwant=0000000000000003\nbudget=7\nend=sheet\nend=sheet\n", fault 53 10)
    ∷ ("sheet=1\nplaces=0\nwant=0000000000000000\nbudget=0\nend=sheet\n", accepted (record { table = table [] [] []; want = 0; budget = 0 }))
    ∷ []

sounded : map (λ w. read_sheet (ascii w.0)) soundings ≡ map (λ w. w.1) soundings
unfolding read_sheet read_all sheet_part place_part query_part several zip zip_with decimal hex signed signed_value width width_in dec_lt dec_le ℕ_discrete in_form Dec.and value_from unglyph cut due read_line same
sounded = refl

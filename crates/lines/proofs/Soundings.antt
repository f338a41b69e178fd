-- Lines computed: what a reader makes of good and of damaged ones.
-- Assumes nothing.
use mathlib.Core.Path.{◌≡◌, refl}
use mathlib.Core.Logic.Dec
use mathlib.Core.List.{List, [], ◌∷◌, map}
use Prim.Native.String.{String}
use native.Mathlib.Decide.{dec_le, dec_lt, ℕ_discrete}
use lib.IntN.{pos, negsuc}
use Rattle.lines.specs.Text.{ascii, decimal, hex, signed, signed_value, width, width_in, value_from, unglyph}
use Rattle.lines.specs.Form.{Form, in_form, same, word, natural, coordinate, bits}
use Rattle.lines.specs.Line.{Got, refused, got, cut, due, read_line}
use Rattle.lines.specs.Part.{one_line, Outcome, fault, accepted, read_all}

-- bytes, and what reading them as line 1 gives
abbrev Reads : {A : Type 0} → String → Form A → List (String × Got A) → Type 0
Reads key f l = map (λ w. read_line (ascii key) f 1 (ascii w.0)) l ≡ map (λ w. w.1) l

-- 51: line missing, without line feed, other key than due, over 40 bytes; 52 only then
numbers : Reads "places=" (natural 4096) (
    ("places=4096\nplace=0\n", got 4096 (ascii "place=0\n"))
    ∷ ("places=0\n", got 0 [])
    ∷ ("", refused 51 1)
    ∷ ("places=7", refused 51 1)
    ∷ ("Places=7\n", refused 51 1)
    ∷ (" places=7\n", refused 51 1)
    ∷ ("\n", refused 51 1)
    ∷ ("places=0000000000000000000000000000000000\n", refused 51 1)
    ∷ ("places=000000000000000000000000000000000\n", refused 52 1)
    ∷ ("places=07\n", refused 52 1)
    ∷ ("places=+7\n", refused 52 1)
    ∷ ("places==7\n", refused 52 1)
    ∷ ("places=7\r\n", refused 52 1)
    ∷ ("places=\n", refused 52 1)
    ∷ ("places=4097\n", refused 52 1)
    ∷ ("places=18446744073709551616\n", refused 52 1)
    ∷ [])
unfolding read_line due cut in_form same Dec.and dec_le dec_lt ℕ_discrete value_from unglyph decimal width width_in
numbers = refl

coordinates : Reads "x=" (coordinate 1000000) (
    ("x=-1000000\n", got (negsuc 999999) [])
    ∷ ("x=1000000\n", got (pos 1000000) [])
    ∷ ("x=-1000001\n", refused 52 1)
    ∷ ("x=1000001\n", refused 52 1)
    ∷ ("x=-0\n", refused 52 1)
    ∷ ("x=-01\n", refused 52 1)
    ∷ ("x=-\n", refused 52 1)
    ∷ ("x=--1\n", refused 52 1)
    ∷ ("x=\n", refused 52 1)
    ∷ ("x2=1\n", refused 51 1)
    ∷ [])
unfolding read_line due cut in_form same Dec.and dec_le dec_lt ℕ_discrete value_from unglyph signed signed_value decimal width width_in
coordinates = refl

kits : Reads "kit=" bits (
    ("kit=fedcba9876543210\n", got 18364758544493064720 [])
    ∷ ("kit=00000000000000FF\n", refused 52 1)
    ∷ ("kit=00000000000000ff0\n", refused 52 1)
    ∷ ("kit=ff\n", refused 52 1)
    ∷ ("kit=00000000000000fg\n", refused 52 1)
    ∷ [])
unfolding read_line due cut in_form same Dec.and dec_lt ℕ_discrete value_from unglyph hex
kits = refl

-- 53: bytes after the last line
abbrev ends : List (String × Outcome (Unit {0}))
ends = ("end=sheet\n", accepted tt) ∷ ("end=sheet\n\n", fault 53 2) ∷ ("end=jobs\n\n", fault 52 1) ∷ []

ended : map (λ w. read_all (one_line (ascii "end=") (word (ascii "sheet"))) (ascii w.0)) ends ≡ map (λ w. w.1) ends
unfolding read_all read_line due cut in_form same Dec.and ℕ_discrete
ended = refl

-- There and back: a sheet that is written reads back as what it holds, and one that is accepted is written back byte for byte.
-- Assumes nothing.
use Prim.Native.Nat.{ℕ}
use mathlib.Core.Path.{◌≡◌, refl, ap, ap₂, ◌∙◌}
use mathlib.Core.Bool.{◌&&◌}
use mathlib.Core.List.{List}
use native.Mathlib.Omega.{arith}
use lib.Dec.{T, leb, leb→le}
use lib.ListN.{length, length-map}
use Rattle.table.specs.Table.{Table, places}
use Rattle.table.proofs.TableLaws.{valid_even}
use Rattle.lines.specs.Text.{ascii, decimal}
use Rattle.lines.specs.Form.{word, natural, coordinate, bits}
use Rattle.lines.specs.Line.{clear, fair}
use Rattle.lines.specs.Part.{and_then, after, several, accepted}
use Rattle.lines.proofs.FormLaws.{every_clear, sound_word, sound_decimal, sound_natural, sound_coordinate, sound_bits}
use Rattle.lines.proofs.PartLaws.{Lawful, both, lawful_line, lawful_then, lawful_after, lawful_before, lawful_several, lawful_viewed, all_back, all_whole}
use Rattle.rows.specs.Sheet.{Held, Writable, Place, fixed, coordinate_line, kit_line, point_part, place_part, want_line, budget_line, query_part, count_line, body_part, x_of, columns, held, counted, sheet_part, sheet_bytes, read_sheet}
use Rattle.rows.proofs.RowLaws.{several_length, rows_columns, valid_columns, valid_fits, fits_valid, fits_kits}

-- each part of the sheet keeps both laws
pub lawful_fixed : (key w : List ℕ) → T (fair key) → T (leb (length w) 21 && clear w) → Lawful (fixed key w)
lawful_fixed key w k h = let u = both (leb (length w) 21) (clear w) h in lawful_line key (word w) k (sound_word w (leb→le (length w) 21 u.0) (every_clear w u.1))

pub lawful_coordinate : (key : List ℕ) → T (fair key) → Lawful (coordinate_line key)
lawful_coordinate key k = lawful_line key (coordinate 1000000) k (sound_coordinate 1000000 (omega arith))

lawful_point : Lawful point_part
lawful_point =
    lawful_then (coordinate_line (ascii "x=")) (λ _. and_then (coordinate_line (ascii "y=")) (λ _. kit_line)) (lawful_coordinate (ascii "x=") tt) (λ _.
    lawful_then (coordinate_line (ascii "y=")) (λ _. kit_line) (lawful_coordinate (ascii "y=") tt) (λ _.
    lawful_line (ascii "kit=") bits tt sound_bits))

pub lawful_place : (i : ℕ) → Lawful (place_part i)
unfolding place_part
lawful_place i = lawful_after (fixed (ascii "place=") (decimal i)) point_part (lawful_line (ascii "place=") (word (decimal i)) tt (sound_decimal i)) lawful_point

lawful_query : Lawful query_part
unfolding query_part
lawful_query =
    lawful_before (fixed (ascii "end=") (ascii "sheet")) (and_then want_line (λ _. budget_line)) (lawful_fixed (ascii "end=") (ascii "sheet") tt tt)
    (lawful_then want_line (λ _. budget_line) (lawful_line (ascii "want=") bits tt sound_bits) (λ _.
    lawful_line (ascii "budget=") (natural 4294967295) tt (sound_natural 4294967295 (omega arith))))

lawful_body : Lawful body_part
lawful_body =
    lawful_then count_line (λ p. and_then (several place_part p 0) (λ _. query_part)) (lawful_line (ascii "places=") (natural 4096) tt (sound_natural 4096 (omega arith))) (λ p.
    lawful_then (several place_part p 0) (λ _. query_part) (lawful_several place_part lawful_place p 0) (λ _. lawful_query))

-- what the lines say is said by the same lines: the columns are as long as there are places
same_lines : (w : ℕ × (List Place × (ℕ × ℕ))) → body_part.Fits w → counted (held w) ≡ w
same_lines w h =
    let n : places (columns w.1.0) ≡ w.0 = length-map w.1.0 x_of ∙ several_length place_part w.0 0 w.1.0 h.1.0 in
    ap₂ (λ (k : ℕ) (l : List Place). (k, (l, w.1.1))) n (rows_columns w.1.0)

lawful_sheet : Lawful sheet_part
unfolding sheet_part
lawful_sheet =
    lawful_viewed held counted (after (fixed (ascii "sheet=") (ascii "1")) body_part)
    (lawful_after (fixed (ascii "sheet=") (ascii "1")) body_part (lawful_fixed (ascii "sheet=") (ascii "1") tt tt) lawful_body)
    (λ w h. same_lines w h.1.1)

-- what is written reads back as the same table, want and budget
pub read_written : (h : Held) → Writable h → read_sheet (sheet_bytes h) ≡ accepted h
unfolding read_sheet sheet_bytes sheet_part query_part
read_written h w =
    let c : held (counted h) ≡ h = ap (λ (t : Table). record { table = t; want = h.want; budget = h.budget }) (valid_columns h.table w.valid) in
    all_back sheet_part lawful_sheet h
    (c, (refl, (tt, ((valid_even w.valid).few, (valid_fits h.table w.valid w.kits, (refl, ((w.want, w.budget), tt)))))))

-- what is accepted is written back byte for byte
pub written_read : (s : List ℕ) (h : Held) → read_sheet s ≡ accepted h → Writable h × (sheet_bytes h ≡ s)
unfolding read_sheet sheet_bytes sheet_part query_part
written_read s h e =
    let w = all_whole sheet_part lawful_sheet s h e in
    let c = ap (λ (k : Held). k.table) w.0.0 in
    let f = w.0.1.1.1 in (
      record {
        valid = fits_valid h.table c f.0 f.1.0;
        kits = fits_kits h.table c f.0 f.1.0;
        want = f.1.1.1.0.0;
        budget = f.1.1.1.0.1;
      },
      w.1,
    )

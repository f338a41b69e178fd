-- What the lines of a place tell, from what each tells.
-- Assumes nothing.
use Prim.Native.Nat.{ℕ, ◌+◌, ◌≤◌}
use mathlib.Core.Path.{◌≡◌, refl}
use mathlib.Core.List.{List}
use native.Mathlib.Omega.{arith}
use lib.Dec.{T}
use lib.IntN.{ℤ, pos, negsuc, nat_abs}
use mir.Syntax.{w32}
use mir.Val.{SFits, to_z, of_z}
use mir.Facts.{to_z-of_z}
use Rattle.lines.specs.Text.{ascii, decimal}
use Rattle.lines.specs.Form.{word, coordinate, bits}
use Rattle.lines.specs.Line.{fair, refused, got, read_line}
use Rattle.lines.proofs.FormLaws.{sound_coordinate}
use Rattle.lines.proofs.PartLaws.{lawful_line}
use Rattle.rows.specs.Sheet.{Place, place_part, x_of, y_of}
use Rattle.rows.proofs.SheetLaws.{lawful_place}

pub place_lines : (i : ℕ) (p : Place) → (place_part i).lines p ≡ 4
unfolding place_part
place_lines i p = refl

-- a coordinate that was read fits 32 bits
fits_32 : (z : ℤ) → nat_abs z ≤ 1000000 → SFits w32 z
fits_32 (pos n) h = record { sfits = omega arith }
fits_32 (negsuc n) h = record { sfits = omega arith }

pub held_32 : (key : List ℕ) → T (fair key) → (n : ℕ) (s : List ℕ) (z : ℤ) (r : List ℕ) → read_line key (coordinate 1000000) n s ≡ got z r → to_z w32 (of_z w32 z) ≡ z
held_32 key h n s z r e = to_z-of_z (fits_32 z ((lawful_line key (coordinate 1000000) h (sound_coordinate 1000000 (omega arith))).whole n s z r e).0)

pub held_place : (i n : ℕ) (s : List ℕ) (p : Place) (r : List ℕ) → (place_part i).read n s ≡ got p r → (to_z w32 (of_z w32 (x_of p)) ≡ x_of p) × (to_z w32 (of_z w32 (y_of p)) ≡ y_of p)
unfolding place_part
held_place i n s p r e =
    let w = ((lawful_place i).whole n s p r e).0 in (to_z-of_z (fits_32 (x_of p) w.1.1.0), to_z-of_z (fits_32 (y_of p) w.1.1.1.0))

-- the first line that is refused decides
module _ (i n : ℕ) (s : List ℕ) where
  pub place_1 : (c l : ℕ) → read_line (ascii "place=") (word (decimal i)) n s ≡ refused c l → (place_part i).read n s ≡ refused c l
  unfolding place_part
  place_1 c l e = rw e

  module _ (r : List ℕ) (e : read_line (ascii "place=") (word (decimal i)) n s ≡ got tt r) where
    pub place_2 : (c l : ℕ) → read_line (ascii "x=") (coordinate 1000000) (n + 1) r ≡ refused c l → (place_part i).read n s ≡ refused c l
    unfolding place_part
    place_2 c l f = rw (e, f)

    module _ (x : ℤ) (r2 : List ℕ) (f : read_line (ascii "x=") (coordinate 1000000) (n + 1) r ≡ got x r2) where
      third : n + 1 + 1 ≡ n + 2
      third = omega arith

      pub place_3 : (c l : ℕ) → read_line (ascii "y=") (coordinate 1000000) (n + 2) r2 ≡ refused c l → (place_part i).read n s ≡ refused c l
      unfolding place_part
      place_3 c l g = rw (e, f, third, g)

      module _ (y : ℤ) (r3 : List ℕ) (g : read_line (ascii "y=") (coordinate 1000000) (n + 2) r2 ≡ got y r3) where
        fourth : n + 2 + 1 ≡ n + 3
        fourth = omega arith

        pub place_4 : (c l : ℕ) → read_line (ascii "kit=") bits (n + 3) r3 ≡ refused c l → (place_part i).read n s ≡ refused c l
        unfolding place_part
        place_4 c l h = rw (e, f, third, g, fourth, h)

        pub place_all : (k : ℕ) (r4 : List ℕ) → read_line (ascii "kit=") bits (n + 3) r3 ≡ got k r4 → (place_part i).read n s ≡ got (x, (y, k)) r4
        unfolding place_part
        place_all k r4 h = rw (e, f, third, g, fourth, h)

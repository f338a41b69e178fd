-- What the first two lines tell, from what each tells.
-- Assumes nothing.
use Prim.Native.Nat.{ℕ, ◌≤◌}
use mathlib.Core.Path.{◌≡◌}
use mathlib.Core.List.{List}
use native.Mathlib.Omega.{arith}
use Rattle.lines.specs.Text.{ascii}
use Rattle.lines.specs.Form.{word, natural}
use Rattle.lines.specs.Line.{refused, got, read_line}
use Rattle.lines.specs.Part.{after}
use Rattle.lines.proofs.FormLaws.{sound_natural}
use Rattle.lines.proofs.PartLaws.{Lawful, lawful_line, lawful_after}
use Rattle.rows.specs.Sheet.{fixed, count_line}
use Rattle.parts.specs.Parts.{head_part}
use Rattle.rows.proofs.SheetLaws.{lawful_fixed}

-- the first line that is refused decides
module _ (s : List ℕ) where
  pub head_1 : (c l : ℕ) → read_line (ascii "sheet=") (word (ascii "1")) 1 s ≡ refused c l → head_part.read 1 s ≡ refused c l
  unfolding head_part
  head_1 c l e = rw e

  module _ (r : List ℕ) (e : read_line (ascii "sheet=") (word (ascii "1")) 1 s ≡ got tt r) where
    pub head_2 : (c l : ℕ) → read_line (ascii "places=") (natural 4096) 2 r ≡ refused c l → head_part.read 1 s ≡ refused c l
    unfolding head_part
    head_2 c l f = rw (e, f)

    pub head_all : (p : ℕ) (r2 : List ℕ) → read_line (ascii "places=") (natural 4096) 2 r ≡ got p r2 → head_part.read 1 s ≡ got p r2
    unfolding head_part
    head_all p r2 f = rw (e, f)

-- there are at most 4,096 places
pub head_few : (n : ℕ) (s : List ℕ) (p : ℕ) (r : List ℕ) → head_part.read n s ≡ got p r → p ≤ 4096
unfolding head_part
head_few n s p r e = (lawful.whole n s p r e).0.1.1
  where
    lawful : Lawful (after (fixed (ascii "sheet=") (ascii "1")) count_line)
    lawful = lawful_after (fixed (ascii "sheet=") (ascii "1")) count_line (lawful_fixed (ascii "sheet=") (ascii "1") tt tt) (lawful_line (ascii "places=") (natural 4096) tt (sound_natural 4096 (omega arith)))

use Rattle.std.proofs.Common.{ℕ, ◌+◌, drop, ap, ap₂, sym, ◌∙◌, ℤ, arith}
use Rattle.lines.specs.Text.{ascii}
use Rattle.lines.specs.Form.{natural, coordinate, bits}
use Rattle.lines.specs.Line.{got}
use Rattle.readers.proofs.KnownLaws.{number_same}
use Rattle.quick.proofs.QuickLaws.{reads_at}
use Rattle.parts.proofs.PlaceLaws.{place_all, held_32}
use Rattle.parts.proofs.quick_place.Goals as goal

pub returns : goal.returns
returns c =
    let a = c.args in
    let s = a.src.now in
    let n = c.in_ok-number.number in
    let at_x = a.at + n.count in
    let at_y = at_x + c.in_ok-x.x.count in
    let at_kit = at_y + c.in_ok-y.y.count in
    let at_next = at_kit + c.in_ok-kit.kit.count in
    let w = reads_at (ascii "place=") (natural 4095) s a.at _ _ c.requires.0 c.in_ok-number.ensures in
    let x = reads_at (ascii "x=") (coordinate 1000000) s at_x _ _ w.0 c.in_ok-x.ensures in
    let y = reads_at (ascii "y=") (coordinate 1000000) s at_y _ _ x.0 c.in_ok-y.ensures in
    let k = reads_at (ascii "kit=") bits s at_kit _ _ y.0 c.in_ok-kit.ensures in
    let m = λ (l : ℕ). number_same (ascii "place=") 4095 a.i l (drop a.at s) (omega arith) (omega (arith, c.requires)) (drop at_x s) (w.1 l ∙ ap (λ (v : ℕ). got v (drop at_x s)) c.if-number-i.false) in
    let fits_x = held_32 (ascii "x=") tt _ _ _ _ (x.1 0) in
    let fits_y = held_32 (ascii "y=") tt _ _ _ _ (y.1 0) in
    let v = c.in_ok-kit.kit.value in
    record {
      most = k.0;
      read = λ l.
          place_all a.i l (drop a.at s) _ (m l) _ _ (x.1 (l + 1)) _ _ (y.1 (l + 2)) _ _ (k.1 (l + 3))
          ∙ ap₂ (λ (x y : ℤ). got (x, (y, v)) (drop at_next s)) (sym fits_x) (sym fits_y);
    }

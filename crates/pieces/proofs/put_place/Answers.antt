-- Four lines, one after the other.
-- Assumes nothing.
use mir.Facts.{to_z-of_z}
use Rattle.print.proofs.WroteLaws.{wrote_then}
use Rattle.rows.specs.Sheet.{place_part}
use Rattle.rows.specs.Pieces.{place_text}
use Rattle.pieces.proofs.put_place.Goals as goal

pub returns : goal.returns
unfolding place_text place_part
returns c =
    let x = rw (to_z-of_z c.ranges.x) at c.put_line-2.ensures in
    let y = rw (to_z-of_z c.ranges.y) at c.put_line-3.ensures in
    wrote_then c.put_line.ensures (wrote_then x (wrote_then y c.put_line-4.ensures))

-- The fixed bytes and the numbers, and the lines of the places before this one.
-- Assumes nothing.
use Rattle.std.proofs.Common.{◌≡◌, ◌+◌, length}
use Rattle.lines.specs.Text.{width}
use Rattle.rows.proofs.SizeLaws.{size_to}
use Rattle.pieces.proofs.size_of.Given as goal

abbrev pub invariant-loop-i : goal.invariant-loop-i
invariant-loop-i l = l.size ≡ 56 + width (length l.t-inside.x.now) + width l.budget + size_to l.t-inside.x.now l.t-inside.y.now l.i

-- The lines of the places before this one stand.
-- Assumes nothing.
use Rattle.print.specs.Wrote.{Wrote}
use Rattle.rows.specs.Pieces.{places_text}
use Rattle.pieces.proofs.put_places.Given as goal

abbrev pub invariant-loop-i : goal.invariant-loop-i
invariant-loop-i l = Wrote l.initial.page (places_text l.t l.i) l.page

use Rattle.std.proofs.Common.{List, drop}
use Rattle.table.specs.Table.{table}
use Rattle.rows.specs.Sheet.{Place, place_part}
use Rattle.parts.proofs.PlaceLaws.{place_lines}
use Rattle.scan.proofs.SeveralLaws.{Passed}
use Rattle.scan.proofs.ColumnLaws.{Columns}
use Rattle.scan.proofs.fill.Given as goal

abbrev pub invariant-loop-i : goal.invariant-loop-i
invariant-loop-i l =
    (r : List Place)
    × (Passed place_part 4 place_lines l.src (drop l.at l.src) l.places 3 l.i l.next r × Columns r l.i (table l.initial.x l.initial.y l.initial.kit) (table l.x l.y l.kit))

-- What the program prints for any bytes of its input.
-- Assumes nothing.
use Rattle.std.specs.Prelude.{ℕ, List, length}
use Rattle.std.proofs.Math.Decide.{dec_le}
use Rattle.levels.specs.Built.{built}
use Rattle.found.specs.Search.{refused, searched}
use Rattle.lines.specs.Part.{Outcome, fault, accepted}
use Rattle.rows.specs.Sheet.{Held, read_sheet}
use Rattle.report.specs.Answer.{answer_lines}

-- the most bytes of an input
abbrev pub most : ℕ
most = 65536

-- a sheet's fault is printed; what a sheet holds is searched over our tree of its table
abbrev pub printed_for : Outcome Held → List ℕ
printed_for (fault code line) = answer_lines (refused code line) 0
printed_for (accepted h) = answer_lines (searched h.table (built h.table) h.want h.budget) h.want

-- 55 before all
unfoldable pub printed : List ℕ → List ℕ
unfolding dec_le
printed s = elim (dec_le (length s) most) [ yes _ ↦ printed_for (read_sheet s) | no _ ↦ answer_lines (refused 55 0) 0 ]

-- Where a walk stands, as the code has it.
-- Assumes nothing.
use Rattle.std.specs.Prelude.{true, false, List, ℕ, replicate}
use Rattle.std.proofs.Math.Option.{Option, none, some}
use Rattle.kit.specs.Kit.{padded}
use Rattle.table.specs.Table.{Table}
use Rattle.walks.specs.Allowance.{Stand}
use Rattle.closest.specs.Group.{diameter}
use Rattle.members.specs.declared.Best.{Best}
use Rattle.walk.specs.declared.State.{State}

-- the best group known; its unused place numbers are 0
abbrev pub best_of : Table → Option (List ℕ) → Best
best_of t none = record { known = false; squared = 0; places = replicate 8 0 }
best_of t (some g) = record { known = true; squared = diameter t g; places = padded g }

abbrev pub state_of : Table → Stand (Option (List ℕ)) → State
state_of t w = record { steps = w.steps; spent = w.spent; best = best_of t w.known }

-- The search has come to a level; m is not below it.
use Rattle.std.proofs.Common.{◌-◌}
use Rattle.levels.specs.Levels.{height}
use Rattle.levels.proofs.LevelLaws.{Climbing}
use Rattle.fill.proofs.spot_of.Given as goal

abbrev pub invariant-loop-end : goal.invariant-loop-end
invariant-loop-end l = Climbing l.n l.m l.level l.below l.end l.size

abbrev pub decreases-loop-end : goal.decreases-loop-end
decreases-loop-end l = height l.n - l.level

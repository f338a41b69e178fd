-- Each node passed is as defined.
use Rattle.levels.specs.Levels.{level_at, start_at, count_at}
use Rattle.fill.proofs.FillLaws.{Filling}
use Rattle.fill.proofs.fill_runs.Given as goal

abbrev pub invariant-loop-m : goal.invariant-loop-m
invariant-loop-m l = record {
  levels : Filling 0 (level_at l.n) l.initial.level l.level 0 l.m;
  starts : Filling 0 (start_at l.n) l.initial.start l.start 0 l.m;
  counts : Filling 0 (count_at l.n) l.initial.count l.count 0 l.m;
}

-- The levels go down in turn. What is left of the run from k on leads to where all of it led, and the columns are the
-- candidate's but for the member that is replaced.
use Rattle.std.proofs.Common.{◌+◌, ◌-◌, ◌*◌, false, take}
use Rattle.walks.specs.Allowance.{stand}
use Rattle.members.specs.Boxes.{AllRanged, boxes_at}
use Rattle.members.specs.Columns.{sides_of}
use Rattle.groups.specs.Members.{wanted, candidate}
use Rattle.groups.proofs.ColumnLaws.{Eight, Beside}
use Rattle.groups.proofs.LoopLaws.{Going}
use Rattle.descent.proofs.+descend.Given as goal

abbrev pub decreases-descend : goal.decreases-descend
decreases-descend l = l.high * 8 + 8 - l.top

abbrev pub invariant-loop-k : goal.invariant-loop-k
invariant-loop-k l = record {
  going : Going l.t l.tree (wanted l.w) l.w.allowance l.w.m (candidate l.w.m l.top l.high l.c) l.o (stand l.fn.p.steps false l.fn.p.best) l.p.steps l.p.best l.k;
  beside : Beside l.top l.below.numbers (sides_of l.below) l.c.numbers (sides_of l.c);
  eight : Eight l.below.numbers (sides_of l.below);
  ranged : AllRanged (take l.w.m (boxes_at (sides_of l.below)));
}

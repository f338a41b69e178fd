-- What is left of the boxes from k on makes of `most`, which is within the limit, what all make.
use Rattle.std.proofs.Common.{◌≡◌, ◌≤◌, max, take, drop}
use Rattle.closest.specs.Group.{farthest}
use Rattle.members.specs.Boxes.{without, boxes_at}
use Rattle.members.specs.Columns.{sides_of}
use Rattle.members.proofs.Members.row_of.Given as goal

abbrev pub invariant-loop-k : goal.invariant-loop-k
invariant-loop-k l = record {
  within : l.most ≤ l.limit;
  makes : max l.most (farthest l.b (drop l.k (without l.i (take l.m (boxes_at (sides_of l.self)))))) ≡ farthest l.b (without l.i (take l.m (boxes_at (sides_of l.self))));
}

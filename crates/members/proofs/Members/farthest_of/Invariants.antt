-- What is left of the boxes from k on makes of `most` what all from `from` on make of `least`.
use Rattle.std.proofs.Common.{◌≡◌, max, take, drop}
use Rattle.closest.specs.Group.{farthest}
use Rattle.members.specs.Boxes.{without, boxes_at}
use Rattle.members.specs.Columns.{sides_of}
use Rattle.members.proofs.Members.farthest_of.Given as goal

abbrev pub invariant-loop-k : goal.invariant-loop-k
invariant-loop-k l =
    max l.most (farthest l.b (drop l.k (without l.i (take l.m (boxes_at (sides_of l.self)))))) ≡ max l.least (farthest l.b (drop l.from (without l.i (take l.m (boxes_at (sides_of l.self))))))

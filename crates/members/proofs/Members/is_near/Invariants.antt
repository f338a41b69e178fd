-- What is left of the boxes from k on decides it.
use Rattle.std.proofs.Common.{◌≡◌, ltb, take, drop}
use Rattle.closest.specs.Group.{farthest}
use Rattle.members.specs.Boxes.{without, boxes_at}
use Rattle.members.specs.Columns.{sides_of}
use Rattle.members.proofs.Members.is_near.Given as goal

abbrev pub invariant-loop-k : goal.invariant-loop-k
invariant-loop-k l =
    ltb l.squared (farthest l.b (drop l.k (without l.i (take l.m (boxes_at (sides_of l.self)))))) ≡ ltb l.squared (farthest l.b (without l.i (take l.m (boxes_at (sides_of l.self)))))

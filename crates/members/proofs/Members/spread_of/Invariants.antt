-- `most` and the spread of the boxes from k on make the spread of all.
use Rattle.std.proofs.Common.{◌≡◌, max, take, drop}
use Rattle.closest.specs.Group.{spread}
use Rattle.members.specs.Boxes.{without, boxes_at}
use Rattle.members.specs.Columns.{sides_of}
use Rattle.members.proofs.Members.spread_of.Given as goal

abbrev pub invariant-loop-k : goal.invariant-loop-k
invariant-loop-k l =
    max l.most (spread (drop l.k (without l.i (take l.m (boxes_at (sides_of l.self)))))) ≡ spread (without l.i (take l.m (boxes_at (sides_of l.self))))

-- What is left of the run from k on leads to where all of it led, and the spread of the others may be known.
use Rattle.std.proofs.Common.{◌≡◌, false, take, IfSome}
use Rattle.walks.specs.Allowance.{stand}
use Rattle.closest.specs.Group.{spread}
use Rattle.members.specs.Boxes.{without, boxes_at}
use Rattle.members.specs.Columns.{sides_of}
use Rattle.groups.specs.Members.{wanted, candidate}
use Rattle.groups.proofs.LoopLaws.{Going}
use Rattle.groups.proofs.take_groups.Given as goal

abbrev pub invariant-loop-k : goal.invariant-loop-k
invariant-loop-k l = record {
  going : Going l.t l.tree (wanted l.w) l.w.allowance l.w.m (candidate l.w.m l.top 1 l.c) l.o (stand l.fn.p.steps false l.fn.p.best) l.p.steps l.p.best l.k;
  rest : IfSome l.rest (λ r. r ≡ spread (without l.top (take l.w.m (boxes_at (sides_of l.c)))));
}

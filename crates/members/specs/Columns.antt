-- The columns of a candidate's members.
-- Assumes nothing.
use Rattle.std.specs.Prelude.{ℕ, set, replicate}
use Rattle.plane.specs.declared.Box.{Box}
use Rattle.tree.specs.Tree.{Sides}
use Rattle.tree.specs.Lent.{sides}
use Rattle.members.specs.declared.Members.{Members}

-- the sides of their boxes
abbrev pub sides_of : Members → Sides
sides_of c = sides c.west c.east c.south c.north

-- member i replaced by one of a number and a box
abbrev pub with_member : Members → ℕ → ℕ → Box → Members
with_member c i number b = record {
  numbers = set c.numbers i number;
  west = set c.west i b.x.lo;
  east = set c.east i b.x.hi;
  south = set c.south i b.y.lo;
  north = set c.north i b.y.hi;
}

-- eight members of one number and one box
abbrev pub eight_of : ℕ → Box → Members
eight_of number b = record {
  numbers = replicate 8 number;
  west = replicate 8 b.x.lo;
  east = replicate 8 b.x.hi;
  south = replicate 8 b.y.lo;
  north = replicate 8 b.y.hi;
}

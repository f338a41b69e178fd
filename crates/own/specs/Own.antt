-- What is used of the columns that our own tree is built in.
-- Assumes nothing.
use Rattle.std.specs.Prelude.{◌≤◌, take}
use Rattle.tree.specs.Tree.{Tree}
use Rattle.tree.specs.Lent.{shape, sides, tree}
use Rattle.build.specs.declared.Built.{Built}
use Rattle.own.specs.declared.Room.{Room}

-- a tree with its columns cut off behind what is used
abbrev pub used : Tree → Tree
used w =
    let n = w.shape.nodes in
    let j = w.shape.listed in
    tree (shape n j (take n w.shape.level) (take n w.shape.start) (take n w.shape.count) (take j w.shape.entries))
    (sides (take n w.sides.x_lo) (take n w.sides.x_hi) (take n w.sides.y_lo) (take n w.sides.y_hi)) (take n w.kits)

-- the tree in the columns: what is used of them
abbrev pub held : Built → Room → Tree
held b r = used (tree (shape b.nodes b.listed r.level r.start r.count r.entries) (sides r.x_lo r.x_hi r.y_lo r.y_hi) r.kits)

-- so many nodes and entries have room
pub record Wide (b : Built) : Type 0 where
  pub nodes : b.nodes ≤ 273
  pub listed : b.listed ≤ 4368

use Rattle.std.proofs.Common.{arith}
use Rattle.tree.specs.Tree.{Tree}
use Rattle.tree.specs.Lent.{shape, sides, tree}
use Rattle.tree.specs.Rules as rules
use Rattle.own.specs.declared.Room.{Room}
use Rattle.own.proofs.BuiltLaws.{none_refused, used_built, nodes_wide, listed_wide}
use Rattle.own.proofs.Room.build.Goals as goal
use Rattle.own.proofs.Room.build.Goals.{After-build}

-- the columns as they were lent
abbrev columns : Room → Tree
columns r = tree (shape 0 0 r.level r.start r.count r.entries) (sides r.x_lo r.x_hi r.y_lo r.y_hi) r.kits

room : (c : After-build) → rules.Room 273 4368 (rules.lengths (columns c.args.self.now))
room c = record { level = omega arith; start = omega arith; count = omega arith; entries = omega arith; x_lo = omega arith; x_hi = omega arith; y_lo = omega arith; y_hi = omega arith; kits = omega arith }

pub unreachable-requires : goal.unreachable-requires
unreachable-requires c = none_refused c.requires (columns c.args.self.now) (room (goal.at.unreachable-requires c).After-build) c.in-Err.field-0 c.in-Err.ensures.refused

pub returns-clause-tree_after : goal.returns-clause-tree_after
returns-clause-tree_after c = used_built c.requires (columns c.args.self.now) (room (goal.at.returns-clause-tree_after c).After-build) c.in-Ok.ensures.columns_after

pub returns-clause-wide : goal.returns-clause-wide
returns-clause-wide c =
    let r = room (goal.at.returns-clause-wide c).After-build in
    record {
      nodes = nodes_wide c.requires (columns c.args.self.now) r c.in-Ok.ensures.columns_after;
      listed = listed_wide c.requires (columns c.args.self.now) r c.in-Ok.ensures.columns_after;
    }

-- Where the answer has no room nothing happens, and else the tree is built.
use Rattle.std.proofs.Common.{ap, ◌∙◌}
use Rattle.table.specs.Table.{table}
use Rattle.tree.specs.Lent.{shape, sides, tree}
use Rattle.tree.specs.Tree.{Tree}
use Rattle.answer.proofs.LentLaws.{too_short}
use Rattle.boundary.specs.Kept.{columns, build_leaves}
use Rattle.boundary.proofs.KeptLaws.{with_room, without_room, build_leaves_lem}
use Rattle.boundary.proofs.longhorbi_build.Goals as goal

pub returns-then-answer-lt4 : goal.returns-then-answer-lt4
returns-then-answer-lt4 c =
    let short = c.if-answer-lt4.true in
    let l = too_short _ _ short in
    let a = c.args in
    let before : Tree = tree (shape 0 0 a.level.now a.start.now a.count.now a.entries.now) (sides a.x_lo.now a.x_hi.now a.y_lo.now a.y_hi.now) a.kits.now in
    let after : Tree = build_leaves (table a.x.now a.y.now a.kit.now) before in
    record { value = l.0; answer_after = l.1; kits_after = ap columns (without_room 4 _ after before short) }

pub returns-clause-kits_after : goal.returns-clause-kits_after
returns-clause-kits_after c =
    let e = c.build.ensures in
    ap columns (build_leaves_lem _ _ _ _ e.refused e.columns_after ∙ with_room 4 _ _ _ c.if-answer-lt4.false)

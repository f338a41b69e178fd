use Rattle.std.proofs.Common.{◌≡◌, ◌∙◌, sym, ap, ap₂, get_or}
use Rattle.plane.specs.Plane.{join_boxes}
use Rattle.tree.specs.Tree.{box_at}
use Rattle.tree.proofs.JoinLaws.{joined_first, joined_next}
use Rattle.tree.proofs.Sides.joined.Goals as goal

pub loop-i-init : goal.loop-i-init
loop-i-init c = c.box_at-all.ensures ∙ ap (box_at c.args.self.now) c.from.ensures ∙ joined_first join_boxes _ c.args.from

pub loop-i-preserved : goal.loop-i-preserved
loop-i-preserved c =
    c.box_join-all.ensures
    ∙ ap₂ join_boxes c.loop-i.invariant (c.box_at.ensures ∙ ap (box_at c.args.self.now) c.from-in-loop-i.ensures)
    ∙ joined_next join_boxes _ c.args.from c.loop-i.i (omega (Rattle.std.proofs.Common.arith, c.loop-i.auto.i))

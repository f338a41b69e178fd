use Rattle.std.proofs.Common.{◌∙◌, ap, ap₂, get_or, bit_or, arith}
use Rattle.tree.proofs.JoinLaws.{joined_first, joined_next}
use Rattle.tree.proofs.joined_kits.Goals as goal

pub loop-i-init : goal.loop-i-init
loop-i-init c = ap (λ e. get_or c.args.kits.now e 0) c.from.ensures ∙ joined_first bit_or _ c.args.from

pub loop-i-preserved : goal.loop-i-preserved
loop-i-preserved c =
    ap₂ bit_or c.loop-i.invariant (ap (λ e. get_or c.args.kits.now e 0) c.from-in-loop-i.ensures)
    ∙ joined_next bit_or _ c.args.from c.loop-i.i (omega (arith, c.loop-i.auto.i))

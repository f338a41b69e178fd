use Rattle.std.proofs.Common.{refl, arith}
use Rattle.lines.specs.Form.{bits}
use Rattle.lines.proofs.FormLaws.{sound_bits}
use Rattle.quick.proofs.QuickLaws.{follows}
use Rattle.quick.proofs.BitsQuickForm.to_feed.Goals as goal

pub returns : goal.returns
returns c =
    let w = c.in_ok-value.ensures in
    follows bits sound_bits c.args.t.now 17 c.in_ok-value.value (record { width = 16; counts = refl; within = omega arith; feed = c.if-t-ne10.false; form = w.0; value = w.1 })

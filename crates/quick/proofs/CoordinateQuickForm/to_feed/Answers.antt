use Rattle.std.proofs.Common.{arith}
use Rattle.lines.specs.Form.{coordinate}
use Rattle.lines.proofs.FormLaws.{sound_coordinate}
use Rattle.quick.proofs.QuickLaws.{follows, signed_leads}
use Rattle.quick.proofs.CoordinateQuickForm.to_feed.Goals as goal

pub returns : goal.returns
returns c =
    let t = c.args.t.now in
    let n = c.in_ok-n.n in
    follows (coordinate 1000000) (sound_coordinate 1000000 (omega arith)) t _ _
    (signed_leads t c.starts_with-minus.result c.from-skip.result n.count n.value _ c.starts_with-minus.ensures.value c.from-skip.ensures c.in_ok-n.ensures (omega arith) c.with_sign.ensures)

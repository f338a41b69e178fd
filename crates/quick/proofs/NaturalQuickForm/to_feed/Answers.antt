use Rattle.std.proofs.Common.{arith}
use Rattle.lines.specs.Form.{natural}
use Rattle.lines.proofs.FormLaws.{sound_natural}
use Rattle.quick.proofs.QuickLaws.{some_follows}
use Rattle.quick.proofs.NaturalQuickForm.to_feed.Goals as goal

pub returns : goal.returns
returns c =
    let most = c.args.self.now.most in
    some_follows (natural most) (sound_natural most (omega arith)) c.args.t.now c.number_to_feed.result c.number_to_feed.ensures

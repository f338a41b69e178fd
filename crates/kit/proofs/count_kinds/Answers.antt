use mathlib.Core.Path.{sym}
use Rattle.kit.proofs.KindLaws.{kinds_ones}
use Rattle.kit.proofs.count_kinds.Goals as goal

pub returns : goal.returns
returns c = sym (kinds_ones c.args.want c.ranges.want.fits)

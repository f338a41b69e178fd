use Rattle.kit.proofs.KindLaws.{and_is_all}
use Rattle.kit.proofs.holds_all.Goals as goal

pub returns : goal.returns
returns c = and_is_all c.args.kit c.args.want c.ranges.want.fits

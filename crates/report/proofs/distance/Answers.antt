-- The root is unique.
-- Assumes nothing.
use Rattle.plane.proofs.RootLaws.{root_unique}
use Rattle.report.proofs.RootLaws.{root_of_lem}
use Rattle.report.proofs.distance.Goals as goal

pub returns : goal.returns
returns c = root_unique c.root.ensures (root_of_lem c.args.squared c.ranges.squared.fits)

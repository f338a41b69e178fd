use mathlib.Core.Path.{ap, ◌∙◌}
use mathlib.Core.Bool.{not}
use mir.Facts.{to_z-of_z}
use Rattle.plane.proofs.WholeLaws.{range_test}
use Rattle.plane.proofs.is_outside.Goals as goal

pub returns : goal.returns
returns c =
    let h = rw (to_z-of_z c.ranges.z, c.new.ensures.start, c.new.ensures.end, c.new.ensures.exhausted) at c.contains.ensures.value in
    ap not h ∙ range_test c.args.z

-- A coordinate in range is shifted without loss.
-- Assumes nothing.
use mathlib.Core.Path.{refl}
use mir.Facts.{to_z-of_z}
use Rattle.keys.proofs.KeyLaws.{shift_fits, shift_below, shift_cast}
use Rattle.keys.proofs.shift.Goals as goal

pub overflow_add-result : goal.overflow_add-result
overflow_add-result c = rw (to_z-of_z c.ranges.z) (shift_fits c.args.z c.requires)

pub overflow_cast-result : goal.overflow_cast-result
overflow_cast-result c = rw (to_z-of_z c.ranges.z, to_z-of_z (shift_fits c.args.z c.requires)) (shift_cast c.args.z c.requires)

pub returns : goal.returns
returns c =
    rw (to_z-of_z c.ranges.z, to_z-of_z (shift_fits c.args.z c.requires)) (record { value = refl; bound = shift_below c.args.z c.requires })

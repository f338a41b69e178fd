use Rattle.parts.proofs.HeadLaws.{head_few}
use Rattle.scan.proofs.rest_at.Goals as goal

pub places_at-requires : goal.places_at-requires
places_at-requires c = (c.requires.0, head_few _ _ _ _ c.requires.1)

pub ending-requires : goal.ending-requires
ending-requires c = (_, (c.requires.1, c.places_at.ensures))

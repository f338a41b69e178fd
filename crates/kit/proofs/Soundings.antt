-- Small words, computed.
-- Assumes nothing.
use mathlib.Core.Path.{◌≡◌, refl}
use mathlib.Core.List.{[], ◌∷◌}
use lib.ListN.{length}
use Rattle.kit.specs.Kit.{kinds, kinds_from}

two_kinds : kinds 3 ≡ 0 ∷ 1 ∷ []
unfolding kinds kinds_from
two_kinds = refl

lowest_and_highest : kinds 0x8000_0000_0000_0001 ≡ 0 ∷ 63 ∷ []
unfolding kinds kinds_from
lowest_and_highest = refl

nine_kinds : length (kinds 0x1ff) ≡ 9
unfolding kinds kinds_from
nine_kinds = refl

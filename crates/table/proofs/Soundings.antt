-- Small tables.
-- Assumes nothing.
use mathlib.Core.Path.{◌≡◌, refl}
use mathlib.Core.List.{[], ◌∷◌}
use lib.IntN.{pos, negsuc}
use Rattle.plane.specs.Plane.{outside}
use Rattle.verdict.specs.Rules.{verdict, says}
use Rattle.table.specs.Table.{table, table_rules, dec_even, dec_ranged}

empty : verdict (table_rules (table [] [] [])) ≡ says 0 0
unfolding verdict dec_even dec_ranged
empty = refl

uneven_kit : verdict (table_rules (table (pos 2000000 ∷ []) (pos 0 ∷ []) [])) ≡ says 11 0
unfolding verdict dec_even dec_ranged
uneven_kit = refl

lowest_place : verdict (table_rules (table (pos 1000000 ∷ pos 0 ∷ pos 1000001 ∷ []) (pos 0 ∷ negsuc 1000000 ∷ pos 0 ∷ []) (0 ∷ 0 ∷ 0 ∷ []))) ≡ says 12 1
unfolding verdict dec_even dec_ranged outside
lowest_place = refl

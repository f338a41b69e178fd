-- Trial soundings of the plane.
-- Assumes nothing.
use mathlib.Core.Path.{◌≡◌, refl}
use native.Mathlib.Omega.{arith}
use lib.IntN.{pos, negsuc}
use Rattle.plane.specs.Plane.{outside, squared_of, measured, answer, apart, box, span, rise}
use Rattle.plane.specs.Root.{Root}
use Rattle.plane.proofs.RootLaws.{root_between}

-- S10: x = 1,000,000 passes, 1,000,001 gives 12
at_the_edge : measured (pos 0) (pos 0) (pos 1000000) (pos 0) ≡ answer 0 0 1000000000000
unfolding measured squared_of outside
at_the_edge = refl

past_the_edge : measured (pos 0) (pos 0) (pos 1000001) (pos 0) ≡ answer 12 1 0
unfolding measured squared_of outside
past_the_edge = refl

-- S11: opposite corners, and the distance shown for them
corners : measured (negsuc 999999) (negsuc 999999) (pos 1000000) (pos 1000000) ≡ answer 0 0 8000000000000
unfolding measured squared_of outside
corners = refl

corners_root : Root 8000000000000 2828427
corners_root = root_between (omega arith) (omega arith)

-- two boxes, 3 apart in x and 4 in y
nearest_points : apart (box (span (negsuc 4) (pos 0)) (span (pos 0) (pos 0))) (box (span (pos 3) (pos 9)) (span (negsuc 5) (negsuc 3))) ≡ 25
unfolding rise
nearest_points = refl

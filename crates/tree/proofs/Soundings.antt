-- Trial soundings of the check.
-- Assumes nothing.
use mathlib.Core.Path.{◌≡◌, refl}
use mathlib.Core.List.{List, [], ◌∷◌}
use Prim.Native.Nat.{ℕ}
use lib.IntN.{pos}
use Rattle.plane.specs.Plane.{outside, least, greatest}
use Rattle.plane.specs.Run.{joined}
use Rattle.table.specs.Table.{Table, table, dec_even, dec_ranged}
use Rattle.verdict.specs.Rules.{verdict, says}
use Rattle.tree.specs.Tree.{Tree, owner}
use Rattle.tree.specs.Rules.{check_rules, dec_counted, dec_shaped, dec_may_name, dec_new, dec_box}
use Rattle.tree.specs.Lent.{shape, sides, tree}

-- harbour H
h : Table
h = table (pos 0 ∷ pos 3 ∷ pos 10 ∷ pos 10 ∷ []) (pos 0 ∷ pos 4 ∷ pos 0 ∷ pos 5 ∷ []) (1 ∷ 2 ∷ 1 ∷ 2 ∷ [])

-- its one leaf, with a box from x 0 to `east`, a kit word and a run
leaf : ℕ → ℕ → List ℕ → Tree
leaf east kit run = tree (shape 1 4 (1 ∷ []) (0 ∷ []) (4 ∷ []) run) (sides (pos 0 ∷ []) (pos east ∷ []) (pos 0 ∷ []) (pos 5 ∷ [])) (kit ∷ [])

passes : verdict (check_rules h (leaf 10 3 (0 ∷ 1 ∷ 2 ∷ 3 ∷ []))) ≡ says 0 0
unfolding h leaf verdict dec_even dec_ranged dec_counted dec_shaped dec_may_name dec_new dec_box owner joined outside least greatest
passes = refl

-- S12: the leaf's box from x 0 to 11
s12 : verdict (check_rules h (leaf 11 3 (0 ∷ 1 ∷ 2 ∷ 3 ∷ []))) ≡ says 25 0
unfolding h leaf verdict dec_even dec_ranged dec_counted dec_shaped dec_may_name dec_new dec_box owner joined outside least greatest
s12 = refl

-- S13: the run 0, 1, 1, 3
s13 : verdict (check_rules h (leaf 10 3 (0 ∷ 1 ∷ 1 ∷ 3 ∷ []))) ≡ says 24 2
unfolding h leaf verdict dec_even dec_ranged dec_counted dec_shaped dec_may_name dec_new dec_box owner joined outside least greatest
s13 = refl

-- a kit word with a kind that no entry holds
false_kind : verdict (check_rules h (leaf 10 7 (0 ∷ 1 ∷ 2 ∷ 3 ∷ []))) ≡ says 26 0
unfolding h leaf verdict dec_even dec_ranged dec_counted dec_shaped dec_may_name dec_new dec_box owner joined outside least greatest
false_kind = refl

-- How many nodes the builder makes, and two small trees.
-- Assumes nothing.
use mathlib.Core.Path.{◌≡◌, refl}
use mathlib.Core.List.{[], ◌∷◌}
use native.Mathlib.Decide.{dec_lt}
use lib.IntN.{pos}
use Rattle.plane.specs.Plane.{least, greatest}
use Rattle.plane.specs.Run.{joined}
use Rattle.order.specs.Key.{interleaved}
use Rattle.order.specs.Sorted.{insert, into}
use Rattle.order.specs.Tab.{tab}
use Rattle.table.specs.Table.{Table, table}
use Rattle.tree.specs.Lent.{shape, sides, tree}
use Rattle.verdict.specs.First.{first_not}
use Rattle.levels.specs.Levels.{size, height, over, nodes, level_at, start_at, count_at}
use Rattle.levels.specs.Built.{value, built}

most : nodes 4096 ≡ 273
unfolding size height over first_not dec_lt
most = refl

seventeen : nodes 17 ≡ 3
unfolding size height over first_not dec_lt
seventeen = refl

sixteen : nodes 16 ≡ 1
unfolding size height over first_not dec_lt
sixteen = refl

none : nodes 0 ≡ 0
unfolding size height over first_not dec_lt
none = refl

-- the levels and runs over 17 places
levels : tab (level_at 17) 3 ≡ 2 ∷ 1 ∷ 1 ∷ []
unfolding size height over level_at first_not dec_lt tab
levels = refl

starts : tab (start_at 17) 3 ≡ 0 ∷ 2 ∷ 18 ∷ []
unfolding size height over level_at first_not dec_lt tab
starts = refl

counts : tab (count_at 17) 3 ≡ 2 ∷ 16 ∷ 1 ∷ []
unfolding size height over level_at first_not dec_lt tab
counts = refl

-- harbour H: one leaf
h : Table
h = table (pos 0 ∷ pos 3 ∷ pos 10 ∷ pos 10 ∷ []) (pos 0 ∷ pos 4 ∷ pos 0 ∷ pos 5 ∷ []) (1 ∷ 2 ∷ 1 ∷ 2 ∷ [])

harbour : built h ≡ tree (shape 1 4 (1 ∷ []) (0 ∷ []) (4 ∷ []) (0 ∷ 1 ∷ 2 ∷ 3 ∷ [])) (sides (pos 0 ∷ []) (pos 10 ∷ []) (pos 0 ∷ []) (pos 5 ∷ [])) (3 ∷ [])
unfolding h size height over level_at first_not dec_lt tab interleaved insert into value joined least greatest
harbour = refl

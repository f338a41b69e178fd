-- Trial soundings of the walk, computed.
-- Assumes nothing.
use mathlib.Core.Path.{◌≡◌, refl}
use mathlib.Core.Bool.{true, false}
use mathlib.Core.List.{List, [], ◌∷◌, map}
use mathlib.Core.Option.{Option, none, some}
use Prim.Native.Nat.{ℕ}
use lib.IntN.{pos}
use Rattle.order.specs.Tab.{tab}
use Rattle.plane.specs.Plane.{rise}
use Rattle.kit.specs.Kit.{all_held}
use Rattle.table.specs.Table.{Table, table}
use Rattle.tree.specs.Tree.{Tree}
use Rattle.tree.specs.Lent.{shape, sides, tree}
use Rattle.walks.specs.Allowance.{Stand, stand, stopped}
use Rattle.walks.specs.Best.{improve}
use Rattle.walks.specs.Order.{first_by, before}
use Rattle.walks.specs.Walk.{final, chain, dropped, walk}
use Rattle.closest.specs.Group.{farthest, spread, diameter}
use Rattle.closest.specs.Candidate.{entries_of, lead, topmost, levels, group_of, replaced, opened, boxes_in, too_far}
use Rattle.closest.specs.Walk.{begins, stands_at}

-- harbour H and its one leaf, a place that holds two kinds, and nothing
abbrev harbour : Table
harbour = table (pos 0 ∷ pos 3 ∷ pos 10 ∷ pos 10 ∷ []) (pos 0 ∷ pos 4 ∷ pos 0 ∷ pos 5 ∷ []) (1 ∷ 2 ∷ 1 ∷ 2 ∷ [])

abbrev leaf : Tree
leaf = tree (shape 1 4 (1 ∷ []) (0 ∷ []) (4 ∷ []) (0 ∷ 1 ∷ 2 ∷ 3 ∷ [])) (sides (pos 0 ∷ []) (pos 10 ∷ []) (pos 0 ∷ []) (pos 5 ∷ [])) (3 ∷ [])

abbrev one_place : Table
one_place = table (pos 0 ∷ []) (pos 0 ∷ []) (3 ∷ [])

abbrev one_leaf : Tree
one_leaf = tree (shape 1 1 (1 ∷ []) (0 ∷ []) (1 ∷ []) (0 ∷ [])) (sides (pos 0 ∷ []) (pos 0 ∷ []) (pos 0 ∷ []) (pos 0 ∷ [])) (3 ∷ [])

abbrev nowhere : Table
nowhere = table [] [] []

abbrev no_tree_lem : Tree
no_tree_lem = tree (shape 0 0 [] [] [] []) (sides [] [] [] []) []

-- a table and a tree, a want and an allowance, and where the walk stands; none where it does not begin
record Sounding : Type 0 where
  places : Table
  over : Tree
  kinds : List ℕ
  allowance : ℕ
  stands : Option (Stand (Option (List ℕ)))

sounding : Table → Tree → List ℕ → ℕ → Option (Stand (Option (List ℕ))) → Sounding
sounding t tree kinds allowance stands = record { places = t; over = tree; kinds = kinds; allowance = allowance; stands = stands }

outcome : Sounding → Option (Stand (Option (List ℕ)))
outcome e = elim (begins e.places e.over e.kinds) [ true ↦ some (stands_at e.places e.over e.kinds e.allowance) | false ↦ none ]

-- S1 to S7
soundings : List Sounding
soundings =
    sounding harbour leaf (0 ∷ 1 ∷ []) 7 (some (stand 7 false (some (0 ∷ 1 ∷ []))))
    ∷ sounding harbour leaf (0 ∷ 1 ∷ []) 6 (some (stand 6 true (some (0 ∷ 1 ∷ []))))
    ∷ sounding harbour leaf (0 ∷ []) 3 (some (stand 3 false (some (0 ∷ []))))
    ∷ sounding harbour leaf (5 ∷ []) 0 none
    ∷ sounding harbour leaf (0 ∷ []) 0 (some (stand 0 true none))
    ∷ sounding one_place one_leaf (0 ∷ 1 ∷ []) 1000 (some (stand 3 false (some (0 ∷ 0 ∷ []))))
    ∷ sounding nowhere no_tree_lem (0 ∷ []) 1000 none
    ∷ []

sounded : map outcome soundings ≡ map (λ e. e.stands) soundings
unfolding sounding outcome soundings begins all_held stopped final chain dropped walk improve first_by before farthest spread diameter tab entries_of lead topmost levels group_of replaced opened boxes_in too_far rise
sounded = refl

-- their squares: places 2, 3 tie with 0, 1 and lose
squares : map (diameter harbour) ((0 ∷ 1 ∷ []) ∷ (2 ∷ 3 ∷ []) ∷ (0 ∷ []) ∷ []) ≡ 25 ∷ 25 ∷ 0 ∷ []
unfolding farthest spread diameter rise
squares = refl

square_of_one : diameter one_place (0 ∷ 0 ∷ []) ≡ 0
unfolding farthest spread diameter rise
square_of_one = refl

-- The starred soundings of the rules, in one list over the definitions, and the one statement that they hold.
-- Assumes nothing.
use mathlib.Core.Path.{◌≡◌, refl}
use mathlib.Core.Bool.{true, false}
use mathlib.Core.Logic.Dec
use mathlib.Core.List.{List, [], ◌∷◌, map}
use Prim.Native.Nat.{ℕ}
use native.Mathlib.Decide.{dec_le, dec_lt, ℕ_discrete}
use lib.IntN.{pos, negsuc}
use Rattle.plane.specs.Plane.{outside, squared_of, measured, answer, rise, least, greatest, Measured}
use Rattle.plane.specs.Run.{joined}
use Rattle.verdict.specs.First.{first_not, dec_all}
use Rattle.verdict.specs.Rules.{lowest, verdict, says, Verdict}
use Rattle.kit.specs.Kit.{kinds, kinds_from, all_held, padded}
use Rattle.table.specs.Table.{Table, table, table_rules, dec_even, dec_in_range, dec_ranged}
use Rattle.order.specs.Tab.{tab}
use Rattle.tree.specs.Tree.{Tree, owner}
use Rattle.tree.specs.Lent.{shape, sides, tree}
use Rattle.tree.specs.Rules.{check_rules, dec_room, dec_counted, dec_shaped, dec_may_name, dec_new, dec_z, dec_span, dec_box}
use Rattle.walks.specs.Allowance.{stopped}
use Rattle.walks.specs.Best.{improve}
use Rattle.walks.specs.Order.{first_by, before}
use Rattle.walks.specs.Walk.{final, chain, dropped, walk}
use Rattle.closest.specs.Group.{farthest, spread, diameter}
use Rattle.closest.specs.Candidate.{entries_of, lead, topmost, levels, group_of, replaced, opened, boxes_in, too_far}
use Rattle.closest.specs.Walk.{begins}
use Rattle.found.specs.Search.{refused, outcome, searched}
use Rattle.found.specs.declared.Found.{Found}
use Rattle.report.specs.Distance.{root_in, root_of}

-- harbour H
abbrev pub harbour : Table
harbour = table (pos 0 ∷ pos 3 ∷ pos 10 ∷ pos 10 ∷ []) (pos 0 ∷ pos 4 ∷ pos 0 ∷ pos 5 ∷ []) (1 ∷ 2 ∷ 1 ∷ 2 ∷ [])

-- one leaf over it, with a box from x 0 to `east` and a run; H's own is `leaf 10 (0 ∷ 1 ∷ 2 ∷ 3 ∷ [])`
abbrev pub leaf : ℕ → List ℕ → Tree
leaf east run = tree (shape 1 4 (1 ∷ []) (0 ∷ []) (4 ∷ []) run) (sides (pos 0 ∷ []) (pos east ∷ []) (pos 0 ∷ []) (pos 5 ∷ [])) (3 ∷ [])

-- the search of a want in H, over its leaf
abbrev pub in_harbour : ℕ → ℕ → Found
in_harbour = searched harbour (leaf 10 (0 ∷ 1 ∷ 2 ∷ 3 ∷ []))

-- one place that holds the kinds 0 and 1, and its leaf
abbrev pub lone : Table
lone = table (pos 0 ∷ []) (pos 0 ∷ []) (3 ∷ [])

abbrev pub lone_leaf : Tree
lone_leaf = tree (shape 1 1 (1 ∷ []) (0 ∷ []) (1 ∷ []) (0 ∷ [])) (sides (pos 0 ∷ []) (pos 0 ∷ []) (pos 0 ∷ []) (pos 0 ∷ [])) (3 ∷ [])

-- no place, and the tree without a node
abbrev pub empty : Table
empty = table [] [] []

abbrev pub no_tree : Tree
no_tree = tree (shape 0 0 [] [] [] []) (sides [] [] [] []) []

-- a group of at most two places with its squared diameter, found or known when spent
abbrev pub group : ℕ → ℕ → ℕ → ℕ → ℕ → Found
group code p q squared steps = record { code = code; at = 0; places = p ∷ q ∷ 0 ∷ 0 ∷ 0 ∷ 0 ∷ 0 ∷ 0 ∷ []; squared = squared; steps = steps; known = true }

-- spent with no group known
abbrev pub spent_at : ℕ → Found
spent_at steps = record { code = 32; at = 0; places = 0 ∷ 0 ∷ 0 ∷ 0 ∷ 0 ∷ 0 ∷ 0 ∷ 0 ∷ []; squared = 0; steps = steps; known = false }

-- what a sounding is about: a search, a check, the distance of two points, or a number
pub data Given : Type 0 where
  search : Found → Given
  check : Verdict → Given
  distance : Measured → Given
  number : ℕ → Given

-- what the definitions give, and what the rules say
abbrev pub soundings : List (Given × Given)
soundings =
    -- S1: H, want {0, 1}, allowance 7
    (search (in_harbour 3 7), search (group 0 0 1 25 7))
    -- S1: places 2, 3 tie
    ∷ (number (diameter harbour (2 ∷ 3 ∷ [])), number 25)
    -- S2: the same with 6
    ∷ (search (in_harbour 3 6), search (group 32 0 1 25 6))
    -- S3: want {0}, allowance 3
    ∷ (search (in_harbour 1 3), search (group 0 0 0 0 3))
    -- S4: want {5}, allowance 0
    ∷ (search (in_harbour 32 0), search (refused 31 0))
    -- S5: want {0}, allowance 0
    ∷ (search (in_harbour 1 0), search (spent_at 0))
    -- S6: one place for both kinds, ample allowance
    ∷ (search (searched lone lone_leaf 3 4294967295), search (group 0 0 0 0 3))
    -- S7: the empty table, want {0}
    ∷ (search (searched empty no_tree 1 4294967295), search (refused 31 0))
    -- S8: want 0
    ∷ (search (in_harbour 0 7), search (refused 1 0))
    -- S9: a want with nine kinds, and one with eight, of which H lacks some
    ∷ (search (in_harbour 511 7), search (refused 2 0))
    ∷ (search (in_harbour 255 7), search (refused 31 0))
    -- S10: x = 1,000,000 passes, 1,000,001 gives 12, in a table and of two points
    ∷ (check (verdict (table_rules (table (pos 1000000 ∷ []) (pos 0 ∷ []) (1 ∷ [])))), check (says 0 0))
    ∷ (check (verdict (table_rules (table (pos 1000001 ∷ []) (pos 0 ∷ []) (1 ∷ [])))), check (says 12 0))
    ∷ (distance (measured (pos 1000000) (pos 0) (pos 0) (pos 0)), distance (answer 0 0 1000000000000))
    ∷ (distance (measured (pos 1000001) (pos 0) (pos 0) (pos 0)), distance (answer 12 0 0))
    -- S11: opposite corners, and the distance shown for them
    ∷ (distance (measured (negsuc 999999) (negsuc 999999) (pos 1000000) (pos 1000000)), distance (answer 0 0 8000000000000))
    ∷ (number (root_of 8000000000000), number 2828427)
    -- S12: H's leaf with box x 0 to 11
    ∷ (check (verdict (check_rules harbour (leaf 11 (0 ∷ 1 ∷ 2 ∷ 3 ∷ [])))), check (says 25 0))
    -- S13: the run 0, 1, 1, 3
    ∷ (check (verdict (check_rules harbour (leaf 10 (0 ∷ 1 ∷ 1 ∷ 3 ∷ [])))), check (says 24 2))
    ∷ []

-- all of them hold
pub all_hold : map (λ w. w.0) soundings ≡ map (λ w. w.1) soundings
unfolding outside squared_of measured rise least greatest joined first_not dec_all lowest verdict kinds kinds_from all_held padded dec_even dec_in_range dec_ranged tab owner dec_room dec_counted dec_shaped dec_may_name dec_new dec_z dec_span dec_box Dec.and Dec.not dec_le dec_lt ℕ_discrete stopped improve first_by before final chain dropped walk farthest spread diameter entries_of lead topmost levels group_of replaced opened boxes_in too_far begins outcome searched root_in root_of
all_hold = refl

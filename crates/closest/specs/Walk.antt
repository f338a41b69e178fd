-- The walk of a want over a tree.
-- Assumes nothing.
use Rattle.std.specs.Prelude.{Bool, true, false, List, ℕ, suc, length, replicate}
use Rattle.std.proofs.Math.Option.{Option, none}
use Rattle.kit.specs.Kit.{held, all_held}
use Rattle.plane.specs.declared.Box.{Box}
use Rattle.table.specs.Table.{Table}
use Rattle.tree.specs.Tree.{Tree, Thing, node, box_of, kit_of}
use Rattle.walks.specs.Allowance.{Stand, stopped}
use Rattle.walks.specs.Best.{best}
use Rattle.walks.specs.Walk.{walk}
use Rattle.closest.specs.Group.{better, diameter}
use Rattle.closest.specs.Candidate.{levels, scene, too_far}

-- a thing holds a kind by its kit word, and has one box in the place of any kind
abbrev pub holds : Table → Tree → ℕ → Thing → Bool
holds t tree k x = held (kit_of t tree.kits x) k

abbrev pub boxes : Table → Tree → ℕ → Thing → Box
boxes t tree k x = box_of t tree.sides x

-- the candidate that is the root m times
abbrev pub roots : List ℕ → List Thing
roots kinds = replicate (length kinds) (node 0)

-- the best group known after each step of taking a candidate and all below it
abbrev pub walk_from : Table → Tree → List ℕ → List Thing → Option (List ℕ) → List (Option (List ℕ))
walk_from t tree kinds c k =
    walk (scene tree.shape (holds t tree) kinds) (best (better t) (diameter t)) (too_far (boxes t tree) kinds) (suc (levels tree.shape c)) c k

-- and of the whole walk
abbrev pub whole_walk : Table → Tree → List ℕ → List (Option (List ℕ))
whole_walk t tree kinds = walk_from t tree kinds (roots kinds) none

-- the root holds every wanted kind; if it lacks one, or there is no node, there is nothing to walk
unfoldable pub begins : Table → Tree → List ℕ → Bool
begins t tree kinds = elim (lib.Dec.ltb 0 tree.shape.nodes) [ true ↦ all_held (kit_of t tree.kits (node 0)) kinds | false ↦ false ]

-- where the walk stands when it ends or the allowance is spent
abbrev pub stands_at : Table → Tree → List ℕ → ℕ → Stand (Option (List ℕ))
stands_at t tree kinds allowance = stopped allowance (whole_walk t tree kinds) none

-- The tree that the builder makes of a table.
-- Assumes nothing.
use Rattle.std.specs.Prelude.{List, ◌++◌, ℕ, zero, suc, ◌-◌, ◌*◌, get_or}
use Rattle.std.specs.Int.Bits.{bit_or}
use Rattle.plane.specs.Plane.{join_boxes}
use Rattle.plane.specs.Run.{joined}
use Rattle.plane.specs.declared.Box.{Box}
use Rattle.order.specs.Order.{order}
use Rattle.order.specs.Tab.{tab}
use Rattle.table.specs.Table.{Table, places, box_of, kit_of}
use Rattle.tree.specs.Tree.{Shape, Sides, Tree}
use Rattle.tree.specs.Lent.{shape, sides, tree}
use Rattle.levels.specs.Levels.{size, nodes, listed, level_at, rank_at, share, start_at, count_at}

-- what is said of the thing of rank r on level l: f r on level 0, and above what its run comes to
unfoldable pub value : {A : Type 0} → (A → A → A) → ℕ → (ℕ → A) → ℕ → ℕ → A
value op n f zero r = f r
value op n f (suc l) r = joined op (value op n f l) (16 * r) (share (size n l) r - 1)

-- what is said of node m, where f says it of each place
abbrev pub value_at : {A : Type 0} → (A → A → A) → Table → (ℕ → A) → ℕ → A
value_at op t f m = value op (places t) (λ r. f (get_or (order t.x t.y) r 0)) (level_at (places t) m) (rank_at (places t) m)

-- the box and the kit word of node m
abbrev pub box_at : Table → ℕ → Box
box_at t = value_at join_boxes t (box_of t)

abbrev pub kit_at : Table → ℕ → ℕ
kit_at t = value_at bit_or t (kit_of t)

-- the entry list: the nodes 1, 2, .., and then the places in order
abbrev pub entries_of : Table → List ℕ
entries_of t = tab suc (nodes (places t) - 1) ++ order t.x t.y

-- a column over the nodes
abbrev pub column : {A : Type 0} → Table → (ℕ → A) → List A
column t f = tab f (nodes (places t))

abbrev pub built_shape : Table → Shape
built_shape t =
    let n = places t in
    shape (nodes n) (listed n) (column t (level_at n)) (column t (start_at n)) (column t (count_at n)) (entries_of t)

abbrev pub built_sides : Table → Sides
built_sides t = sides (column t (λ m. (box_at t m).x.lo)) (column t (λ m. (box_at t m).x.hi)) (column t (λ m. (box_at t m).y.lo)) (column t (λ m. (box_at t m).y.hi))

abbrev pub built : Table → Tree
built t = tree (built_shape t) (built_sides t) (column t (kit_at t))

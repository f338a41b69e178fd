-- What is kept of an opened candidate.
-- Assumes nothing.
use mathlib.Core.Path.{◌≡◌}
use mathlib.Core.List.{List, map}
use mathlib.Core.Option.{some}
use Prim.Native.Nat.{ℕ, suc, ◌<◌}
use lib.Dec.{eqb}
use lib.ListN.{take, get_or, set}
use Rattle.tree.specs.Tree.{Tree, Thing, node, level, level_of, start_of, count_of}
use Rattle.closest.specs.Candidate.{number, member, group_of}
use Rattle.groups.specs.Members.{Member, things_of}
use Rattle.groups.specs.declared.Opening.{Opening}

-- the member to replace, a node; its kind and its run
pub record Opens (tree : Tree) (kinds : List ℕ) (m : ℕ) (cand : List Member) (o : Opening) : Type 0 where
  pub inside : o.top < m
  pub is : member (things_of (take m cand)) o.top ≡ node o.node
  pub there : o.node < tree.shape.nodes
  pub kind : o.kind ≡ get_or kinds o.top 0
  pub leaf : o.leaf ≡ eqb (level_of tree.shape o.node) 1
  pub first : o.first ≡ start_of tree.shape o.node
  pub many : o.many ≡ count_of tree.shape o.node

-- the candidates that come of it are groups
abbrev pub Last : Tree → List Thing → ℕ → Type 0
Last tree c top = (y : Thing) → level tree.shape (member c top) ≡ suc (level tree.shape y) → group_of tree.shape (set c top y) ≡ some (map number (set c top y))

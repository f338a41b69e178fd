-- A candidate as the code has it: columns of the levels, the numbers and the sides of its members.
-- Assumes nothing.
use Rattle.std.specs.Prelude.{◌≡◌, List, map, ℕ, ◌≤◌, ◌<◌, pos, eqb, length, take, get_or}
use Rattle.plane.specs.Plane.{point}
use Rattle.plane.specs.declared.Box.{Box}
use Rattle.table.specs.Table.{Table, places, Valid}
use Rattle.verdict.specs.Rules.{AllHold}
use Rattle.tree.specs.Rules.{tree_rules}
use Rattle.order.specs.Tab.{tab}
use Rattle.tree.specs.Tree.{Sides, Tree, Thing, place, thing, level, box_at, box_of}
use Rattle.closest.specs.Candidate.{number, Good, member}
use Rattle.members.specs.declared.Members.{Members}
use Rattle.members.specs.declared.Want.{Want}
use Rattle.members.specs.Columns.{sides_of}
use Rattle.members.specs.Levels.{levels_at}

-- a member: its level, which is 0 for a place, its number and its box
pub record Member : Type 0 where
  pub level : ℕ
  pub number : ℕ
  pub at : Box

-- the member that stands for a thing
abbrev pub member_of : Table → Tree → Thing → Member
member_of t tree x = record { level = level tree.shape x; number = number x; at = box_of t tree.sides x }

-- the members that stand for a candidate
abbrev pub members_of : Table → Tree → List Thing → List Member
members_of t tree c = map (member_of t tree) c

-- a thing of level 0 in a candidate is a place, as in every tree that passes
abbrev pub Placed : Tree → List Thing → Type 0
Placed tree c = (i : ℕ) → i < length c → level tree.shape (member c i) ≡ 0 → member c i ≡ place (number (member c i))

-- a member that is never read
abbrev pub nobody : Member
nobody = record { level = 0; number = 0; at = point (pos 0) (pos 0) }

abbrev pub boxes_of : List Member → List Box
boxes_of c = map (λ m. m.at) c

-- the members that eight levels, numbers and sides of each direction make
abbrev pub members_at : List ℕ → List ℕ → Sides → List Member
members_at levels numbers b = tab (λ i. record { level = get_or levels i 0; number = get_or numbers i 0; at = box_at b i }) 8

-- the kinds of a want, and a candidate in its columns, whose levels go down in turn
abbrev pub wanted : Want → List ℕ
wanted w = take w.m w.kinds

abbrev pub candidate : ℕ → ℕ → ℕ → Members → List Member
candidate m top high c = members_at (levels_at m top high) c.numbers (sides_of c)

-- the thing that a member stands for
abbrev pub thing_of : Member → Thing
thing_of a = thing (eqb a.level 0) a.number

abbrev pub things_of : List Member → List Thing
things_of c = map thing_of c

-- a thing that there is: a place of the table, or a node of the tree
abbrev pub Real : Table → Tree → Thing → Type 0
Real t tree x = Good (places t) tree.shape x

-- members that stand for a candidate: one for each kind, each a thing that there is, with its level and its box
pub record Fair (t : Table) (tree : Tree) (kinds : List ℕ) (c : List Member) : Type 0 where
  pub size : length c ≡ length kinds
  pub real : (i : ℕ) → i < length c → Real t tree (thing_of (get_or c i nobody))
  pub so : c ≡ members_of t tree (things_of c)

-- there is a kind, there are at most eight, and each is one of the 64
pub record Few (m : ℕ) (kinds : List ℕ) : Type 0 where
  pub some : 0 < m
  pub most : m ≤ 8
  pub small : (i : ℕ) → i < m → get_or kinds i 0 < 64

-- the table is sound and the tree passes the check
pub record Passes (t : Table) (tree : Tree) : Type 0 where
  pub sound : Valid t
  pub passes : AllHold (tree_rules t tree)

-- The candidate that comes of an opened one at entry k of its run.
-- Assumes nothing.
use mathlib.Core.Path.{◌≡◌, refl, sym, ap, ap₂, subst, ◌∙◌}
use mathlib.Core.Bool.{Bool, true, false, cond, true≢false, false≢true}
use mathlib.Core.List.{List, map}
use mathlib.Core.Option.{none, some}
use Prim.Native.Nat.{ℕ, suc, ◌+◌, ◌-◌, ◌≤◌, ◌<◌, max}
use native.Mathlib.Decide.{dec_lt}
use native.Mathlib.Omega.{arith}
use borrow.Author.Tests.{lt-ltb, le-ltb}
use lib.Dec.{eqb}
use lib.ListN.{length, take, get_or, set, length-set, length-map}
use lib.Seq.{length-take-le, set-get_or, take-set-lt}
use Rattle.plane.specs.Plane.{Within}
use Rattle.plane.specs.declared.Box.{Box}
use Rattle.table.specs.Table.{Table}
use Rattle.tree.specs.Tree.{Tree, Sides, Thing, thing, level, box_at, box_of, start_of, count_of}
use Rattle.closest.specs.Group.{farthest, spread}
use Rattle.closest.specs.Candidate.{number, member, topmost, group_of, entry, boxes_in}
use Rattle.closest.specs.Walk.{boxes}
use Rattle.closest.proofs.CandidateLaws.{open_is}
use Rattle.members.specs.Boxes.{without, UpTo}
use Rattle.members.specs.Levels.{levels_at, next_top, next_high}
use Rattle.members.specs.Best.{limit_of, near}
use Rattle.groups.specs.Members.{Member, member_of, nobody, boxes_of, members_at, things_of, Fair, Passes}
use Rattle.groups.specs.Opening.{Opened}
use Rattle.groups.specs.Leads.{Near}
use Rattle.members.specs.declared.Best.{Best}
use Rattle.groups.specs.declared.Opening.{Opening}
use Rattle.groups.proofs.Opens.{Opens, Last}
use Rattle.members.proofs.BoxesLaws.{spread_set}
use Rattle.members.proofs.LevelLaws.{top_in, high_back, levels_eight, from, levels_next, level_top, top_at, all_down}
use Rattle.groups.proofs.MemberLaws.{set_map, numbers_are, levels_are}
use Rattle.groups.proofs.EntryLaws.{entry_lower, entry_within}
use Rattle.groups.proofs.RunLaws.{in_run, is_entry, real}
use Rattle.groups.proofs.TurnLaws.{group_of_lem, no_group}
use Rattle.groups.proofs.ColumnLaws.{members_long, member_at, levels_of}
use Rattle.groups.proofs.OpenLaws.{stand, many, top_inside, top_there, opens, fair_set, things_set, spread_in, spread_next, spread_rises}

number_of : (leaf : Bool) (e : ℕ) → number (thing leaf e) ≡ e
number_of true e = refl
number_of false e = refl

-- some of a list of boxes are spread no farther than all
rest_le : (l : List Box) (i : ℕ) (d : Box) → i < length l → spread (without i l) ≤ spread l
rest_le l i d h = omega (arith, ap spread (sym (set-get_or l i d)) ∙ spread_set l i (get_or l i d) h)

-- a candidate that is opened, over a tree that passes
pub record Ready (t : Table) (tree : Tree) (kinds : List ℕ) (m : ℕ) (cand : List Member) (o : Opening) : Type 0 where
  pub passes : Passes t tree
  pub long : m ≤ length cand
  pub fair : Fair t tree kinds (take m cand)
  pub opens : Opens tree kinds m cand o

module _ {t : Table} {tree : Tree} {kinds : List ℕ} {m : ℕ} {cand : List Member} {o : Opening} (r : Ready t tree kinds m cand o) where
  abbrev c : List Thing
  c = things_of (take m cand)

  pub inside : o.top < length c
  inside = omega (arith, many r.passes kinds m cand r.long r.fair, r.opens.inside)

  rest_in : spread (without o.top (boxes_of (take m cand))) ≤ spread (boxes_of (take m cand))
  rest_in = rest_le (boxes_of (take m cand)) o.top nobody.at (omega (arith, r.opens.inside, boxes_many))
    where
      boxes_many : length (boxes_of (take m cand)) ≡ m
      boxes_many = length-map (take m cand) _ ∙ length-take-le m cand r.long

  -- where the levels go down in turn, and the member is the one that leads
  module _ (few : m ≤ 8) (high : ℕ) (e : map (λ (a : Member). a.level) (take m cand) ≡ take m (levels_at m o.top high)) where
    abbrev levels : List ℕ
    levels = levels_at m o.top high

    levels_so : take m levels ≡ map (level tree.shape) c
    levels_so = sym e ∙ levels_are (stand r.passes kinds m cand r.long r.fair)

    high_is : level tree.shape (member c o.top) ≡ high
    high_is = level_top m o.top high few tree.shape c levels_so r.opens.inside

    -- the candidate with a thing one level lower for it: its levels, its topmost member, and whether it is a group
    module _ (x : Thing) (one : level tree.shape (member c o.top) ≡ suc (level tree.shape x)) where
      abbrev below : List Thing
      below = set c o.top x

      pub lower_is : high - 1 ≡ level tree.shape x
      lower_is = omega (arith, high_is, one)

      levels_below : take m (levels_at m (next_top m o.top) (next_high m o.top high)) ≡ map (level tree.shape) below
      levels_below =
          ap (take m) (sym (levels_next m o.top high few r.opens.inside))
          ∙ take-set-lt m levels o.top (high - 1) r.opens.inside
          ∙ ap₂ (λ (l : List ℕ) (n : ℕ). set l o.top n) levels_so lower_is
          ∙ set_map (level tree.shape) c o.top x

      pub top_below : 0 < next_high m o.top high → topmost tree.shape below ≡ next_top m o.top
      top_below p = top_at m (next_top m o.top) (next_high m o.top high) few tree.shape below levels_below (top_in m o.top r.opens.inside) p

      pub more_below : 0 < next_high m o.top high → group_of tree.shape below ≡ none
      more_below p =
          no_group tree.shape below
          (λ z. absurd (omega (arith, z, p, ap (λ (i : ℕ). level tree.shape (member below i)) (top_below p), level_top m (next_top m o.top) (next_high m o.top high) few tree.shape below levels_below (top_in m o.top r.opens.inside))))

      group_below : next_high m o.top high ≡ 0 → group_of tree.shape below ≡ some (map number below)
      group_below z = group_of_lem tree.shape below (all_down m (next_top m o.top) (next_high m o.top high) few tree.shape below levels_below z)

    -- of the last member, a leaf, groups come
    pub groups : m ≤ o.top + 1 → high ≡ 1 → Last tree c o.top
    groups h e x one = group_below x one (omega (arith, high_back m o.top high h, e))

  module _ (k : ℕ) (b : k < o.many) where
    abbrev y : Thing
    y = entry tree.shape o.node k

    pub lower : level tree.shape (member c o.top) ≡ suc (level tree.shape y)
    lower = ap (level tree.shape) r.opens.is ∙ entry_lower r.passes o.node k r.opens.there (in_run r.passes r.opens k b)

    abbrev pub next : List Member
    next = set cand o.top (member_of t tree y)

    pub next_long : m ≤ length next
    next_long = omega (arith, r.long, length-set cand o.top (member_of t tree y))

    pub next_fair : Fair t tree kinds (take m next)
    next_fair = fair_set r.passes kinds m cand r.long r.fair o.top y r.opens.inside (real r.passes r.opens k b)

    pub next_things : things_of (take m next) ≡ set c o.top y
    next_things = things_set r.passes kinds m cand r.long r.fair o.top y r.opens.inside (real r.passes r.opens k b)

    pub member_is : (v n : ℕ) (d : Box) → v ≡ level tree.shape y → n ≡ get_or tree.shape.entries (o.first + k) 0 → d ≡ box_of t tree.sides y → record { level = v; number = n; at = d } ≡ member_of t tree y
    member_is v n d e f g =
        ap₂ (λ (a : ℕ) (h : ℕ). record { level = a; number = h; at = d }) e (f ∙ sym (number_of o.leaf (get_or tree.shape.entries (o.first + k) 0)) ∙ ap number (is_entry r.passes r.opens k b))
        ∙ ap (λ (h : Box). record { level = level tree.shape y; number = number y; at = h }) g

    -- its spread, as the walk has it and as the code does
    pub next_spread : spread (boxes_of (take m next)) ≡ spread (boxes_in (boxes t tree) kinds (set c o.top y))
    next_spread = spread_in r.passes kinds m next next_long next_fair ∙ ap (λ (d : List Thing). spread (boxes_in (boxes t tree) kinds d)) next_things

    pub next_made : spread (boxes_of (take m next)) ≡ max (spread (without o.top (boxes_of (take m cand)))) (farthest (box_of t tree.sides y) (without o.top (boxes_of (take m cand))))
    next_made = spread_next r.passes kinds m cand r.long r.fair o.top y r.opens.inside (real r.passes r.opens k b)

    pub next_rises : spread (boxes_of (take m cand)) ≤ spread (boxes_of (take m next))
    next_rises =
        spread_rises r.passes kinds m cand r.long r.fair o.top y r.opens.inside (real r.passes r.opens k b)
        (subst (λ (x : Thing). Within (box_of t tree.sides y) (box_of t tree.sides x)) (sym r.opens.is) (entry_within r.passes o.node k r.opens.there (in_run r.passes r.opens k b)))

    -- its numbers, where a column has those of the candidate
    pub next_numbers : (numbers : List ℕ) → map (λ (a : Member). a.number) (take m cand) ≡ take m numbers → take m (set numbers o.top (get_or tree.shape.entries (o.first + k) 0)) ≡ map number (set c o.top y)
    next_numbers numbers e =
        take-set-lt m numbers o.top (get_or tree.shape.entries (o.first + k) 0) r.opens.inside
        ∙ ap₂ (λ (l : List ℕ) (n : ℕ). set l o.top n) (sym e ∙ numbers_are (stand r.passes kinds m cand r.long r.fair)) (sym (number_of o.leaf (get_or tree.shape.entries (o.first + k) 0)) ∙ ap number (is_entry r.passes r.opens k b))
        ∙ set_map number c o.top y

    -- where the candidate is not dropped, the pairs of the new member decide whether this one is
    module _ (best : Best) (near : Near best (spread (boxes_of (take m cand)))) where
      abbrev far : ℕ
      far = farthest (box_of t tree.sides y) (without o.top (boxes_of (take m cand)))

      pub comes : Near best far → Near best (spread (boxes_of (take m next)))
      comes h e = omega (arith, next_made, near e, h e, rest_in)

      pub dropped_far : best.squared < far → best.squared < spread (boxes_of (take m next))
      dropped_far h = omega (arith, next_made)

-- what a distance that is known up to the limit says
module _ (best : Best) {limit d row : ℕ} (l : limit ≡ limit_of best.known best.squared) (u : UpTo limit d row) where
  known_limit : best.known ≡ true → limit ≡ best.squared
  known_limit e = rw e at l

  pub up_near : row ≤ limit → Near best d
  up_near h e = omega (arith, u.near h, known_limit e, h)

  pub up_known : row < 18446744073709551616 → limit < row → best.known ≡ true
  up_known f h = go best.known refl
    where
      go : (v : Bool) → best.known ≡ v → best.known ≡ true
      go true e = e
      go false e = absurd (omega (arith, h, f, (rw e at l)))

  pub up_far : row < 18446744073709551616 → limit < row → best.squared < d
  up_far f h = omega (arith, u.far h, known_limit (up_known f h))

-- and what the test of a distance says
pub near_so : (best : Best) (d : ℕ) → near best.known best.squared d ≡ true → Near best d
near_so best d h e = go (dec_lt best.squared d)
  where
    go : Dec (best.squared < d) → d ≤ best.squared
    go (yes l) = absurd (false≢true (sym (ap₂ (λ (u v : Bool). cond u (cond v false true) true) e (lt-ltb best.squared d l)) ∙ h))
    go (no l) = omega arith

pub far_so : (best : Best) (d : ℕ) → near best.known best.squared d ≡ false → (best.known ≡ true) × (best.squared < d)
far_so best d h = go best.known refl (dec_lt best.squared d)
  where
    go : (u : Bool) → best.known ≡ u → Dec (best.squared < d) → (best.known ≡ true) × (best.squared < d)
    go true e (yes l) = (e, l)
    go true e (no l) = absurd (true≢false (sym (ap₂ (λ (u v : Bool). cond u (cond v false true) true) e (le-ltb best.squared d (omega arith))) ∙ h))
    go false e l = absurd (true≢false (sym (ap (λ (u : Bool). near u best.squared d) e) ∙ h))

-- an opened candidate in columns, whose levels go down in turn
module _ {t : Table} {tree : Tree} (p : Passes t tree) (kinds : List ℕ) (m : ℕ) (few : m ≤ 8) (top high : ℕ) (numbers : List ℕ) (b : Sides) {best : Best}
    (i : Opened t tree (take m kinds) m (members_at (levels_at m top high) numbers b) top best) where
  abbrev cand : List Member
  cand = members_at (levels_at m top high) numbers b

  long : m ≤ length cand
  long = omega (arith, members_long (levels_at m top high) numbers b)

  pub lead_inside : top < m
  lead_inside = top_inside p (take m kinds) m cand long i.fair top i.is i.whole

  lead_is : get_or cand top nobody ≡ record { level = high; number = get_or numbers top 0; at = box_at b top }
  lead_is =
      member_at (levels_at m top high) numbers b top (omega (arith, lead_inside))
      ∙ ap (λ (v : ℕ). record { level = v; number = get_or numbers top 0; at = box_at b top }) (from m top high few top lead_inside (omega arith))

  -- it is a node
  pub lead_high : 0 < high
  lead_high =
      let c = things_of (take m cand) in
      let is = level_top m top high few tree.shape c (sym (levels_of (levels_at m top high) numbers b m (levels_eight m top high few)) ∙ levels_are (stand p (take m kinds) m cand long i.fair)) lead_inside in
      let some = subst (λ (j : ℕ). 0 < level tree.shape (member c j)) (sym i.is) (open_is tree.shape c i.whole) in
      omega (arith, is, some)

  pub lead_there : get_or numbers top 0 < tree.shape.nodes
  lead_there = subst (λ (a : Member). a.number < tree.shape.nodes) lead_is (top_there p (take m kinds) m cand long i.fair top i.is i.whole)

  -- what is kept of it
  module _ (o : Opening) (e : o ≡ record { top = top; node = get_or numbers top 0; kind = get_or kinds top 0; leaf = eqb high 1; first = start_of tree.shape (get_or numbers top 0); many = count_of tree.shape (get_or numbers top 0) }) where
    lead_so : o.top ≡ top
    lead_so = ap (λ (a : Opening). a.top) e

    pub ready : Ready t tree (take m kinds) m cand o
    ready = record {
      passes = p;
      long = long;
      fair = i.fair;
      opens = opens p (take m kinds) m cand long i.fair top i.is i.whole kinds o refl
          (e
          ∙ ap (λ (a : Member). record { top = top; node = a.number; kind = get_or kinds top 0; leaf = eqb a.level 1; first = start_of tree.shape a.number; many = count_of tree.shape a.number }) (sym lead_is));
    }

    pub levels_down : map (λ (a : Member). a.level) (take m cand) ≡ take m (levels_at m o.top high)
    levels_down = levels_of (levels_at m top high) numbers b m (levels_eight m top high few) ∙ ap (λ (n : ℕ). take m (levels_at m n high)) (sym lead_so)

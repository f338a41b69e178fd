-- An opened candidate in its columns, and one turn of the loop over its run, as the code reads them.
-- Assumes nothing.
use mathlib.Core.Path.{◌≡◌, sym, ap, ap₂, subst, ◌∙◌}
use mathlib.Core.Bool.{Bool, true, false}
use mathlib.Core.List.{List, map}
use Prim.Native.Nat.{ℕ, ◌+◌, ◌≤◌, ◌<◌, max}
use native.Mathlib.Omega.{arith}
use lib.Dec.{eqb}
use lib.ListN.{length, take, get_or, set}
use Rattle.kit.specs.Kit.{held, padded}
use Rattle.plane.specs.Plane.{Ranged}
use Rattle.plane.specs.declared.Box.{Box}
use Rattle.table.specs.Table.{Table}
use Rattle.tree.specs.Tree.{Tree, Shape, Sides, Thing, place, thing, box_at, box_of, kit_of, start_of, count_of}
use Rattle.tree.specs.Lent.{sides}
use Rattle.tree.specs.Rules.{lengths, Room}
use Rattle.walks.specs.Allowance.{Stand, stand}
use Rattle.closest.specs.Group.{farthest, spread}
use Rattle.closest.specs.Candidate.{entry}
use Rattle.closest.specs.Walk.{holds}
use Rattle.members.specs.declared.Members.{Members}
use Rattle.members.specs.declared.Want.{Want}
use Rattle.members.specs.Boxes.{without, AllRanged, boxes_at, UpTo}
use Rattle.members.specs.Columns.{sides_of}
use Rattle.members.proofs.PlaceLaws.{group_long}
use Rattle.members.specs.Levels.{levels_at}
use Rattle.members.specs.declared.Best.{Best}
use Rattle.members.specs.Best.{limit_of, improved, Stepped}
use Rattle.groups.specs.Members.{Member, boxes_of, things_of, wanted, candidate, Few, Passes}
use Rattle.groups.specs.Opening.{Opened, Led}
use Rattle.groups.specs.declared.Opening.{Opening}
use Rattle.groups.proofs.Opens.{Last}
use Rattle.groups.proofs.EntryLaws.{meets, ranged, Reads}
use Rattle.groups.proofs.RunLaws.{kind_small, in_list, in_few, is_entry, real, reads}
use Rattle.groups.proofs.ColumnLaws.{boxes_of_lem, numbers_of}
use Rattle.groups.proofs.OpenLaws.{boxes_ranged}
use Rattle.groups.proofs.NextLaws.{Ready, groups, next_made, next_numbers, lead_inside, lead_high, lead_there, ready, levels_down, up_near, up_known, up_far}
use Rattle.groups.proofs.LoopLaws.{Going, over, skips, spends, drops, learns}

-- what is known of an opened candidate
pub record Round (t : Table) (tree : Tree) (w : Want) (top high : ℕ) (c : Members) (o : Opening) : Type 0 where
  pub passes : Passes t tree
  pub few : Few w.m w.kinds
  pub first : Best
  pub opened : Opened t tree (wanted w) w.m (candidate w.m top high c) top first
  pub is : o ≡ record { top = top; node = get_or c.numbers top 0; kind = get_or w.kinds top 0; leaf = eqb high 1; first = start_of tree.shape (get_or c.numbers top 0); many = count_of tree.shape (get_or c.numbers top 0) }

pub round : {t : Table} {tree : Tree} (w : Want) (top high : ℕ) (c : Members) {first : Best} {o : Opening} {s : Shape} → Passes t tree → Few w.m w.kinds → Opened t tree (wanted w) w.m (candidate w.m top high c) top first → s ≡ tree.shape →
    o ≡ record { top = top; node = get_or c.numbers top 0; kind = get_or w.kinds top 0; leaf = eqb high 1; first = start_of s (get_or c.numbers top 0); many = count_of s (get_or c.numbers top 0) } → Round t tree w top high c o
round w top high c {first = first} p few i v e = record {
  passes = p;
  few = few;
  first = first;
  opened = i;
  is = e ∙ ap (λ (s : Shape). record { top = top; node = get_or c.numbers top 0; kind = get_or w.kinds top 0; leaf = eqb high 1; first = start_of s (get_or c.numbers top 0); many = count_of s (get_or c.numbers top 0) }) v;
}

-- the member that is opened
module _ {t : Table} {tree : Tree} (p : Passes t tree) (w : Want) (few : Few w.m w.kinds) (top high : ℕ) (c : Members) {first : Best}
    (i : Opened t tree (wanted w) w.m (candidate w.m top high c) top first) where
  pub top_in : top < w.m
  top_in = lead_inside p w.kinds w.m few.most top high c.numbers (sides_of c) i

  pub top_high : 0 < high
  top_high = lead_high p w.kinds w.m few.most top high c.numbers (sides_of c) i

  there : get_or c.numbers top 0 < tree.shape.nodes
  there = lead_there p w.kinds w.m few.most top high c.numbers (sides_of c) i

  pub node_in : {s : Shape} → s ≡ tree.shape → (get_or c.numbers top 0 < length s.start) × (get_or c.numbers top 0 < length s.count)
  node_in v =
      let room : Room tree.shape.nodes tree.shape.listed (lengths tree) = (meets p).counted.room in
      (omega (arith, there, room.start, ap (λ (s : Shape). length s.start) v), omega (arith, there, room.count, ap (λ (s : Shape). length s.count) v))

module _ {t : Table} {tree : Tree} {w : Want} {top high : ℕ} {c : Members} {o : Opening} (z : Round t tree w top high c o) where
  abbrev pub cand : List Member
  cand = candidate w.m top high c

  boxes_so : boxes_of (take w.m cand) ≡ take w.m (boxes_at (sides_of c))
  boxes_so = boxes_of_lem _ c.numbers (sides_of c) w.m

  pub readied : Ready t tree (wanted w) w.m cand o
  readied = ready z.passes w.kinds w.m z.few.most top high c.numbers (sides_of c) z.opened o z.is

  pub down : map (λ (a : Member). a.level) (take w.m cand) ≡ take w.m (levels_at w.m o.top high)
  down = levels_down z.passes w.kinds w.m z.few.most top high c.numbers (sides_of c) z.opened o z.is

  pub top_so : o.top ≡ top
  top_so = ap (λ (a : Opening). a.top) z.is

  pub ranged_in : AllRanged (take w.m (boxes_at (sides_of c)))
  ranged_in = subst AllRanged boxes_so (boxes_ranged z.passes (wanted w) w.m cand readied.long readied.fair)

  pub kind_in : o.kind < 64
  kind_in = kind_small w.kinds w.m readied.opens z.few

  -- the others of the candidate, in columns
  others_so : without top (take w.m (boxes_at (sides_of c))) ≡ without o.top (boxes_of (take w.m cand))
  others_so = ap₂ (λ (n : ℕ) (l : List Box). without n l) (sym top_so) (sym boxes_so)

  abbrev pub Goes : Stand Best → ℕ → Best → ℕ → Type 0
  Goes from steps best k = Going t tree (wanted w) w.allowance w.m cand o from steps best k

  abbrev pub Ends : Stand Best → Stand Best → Type 0
  Ends from to = Led t tree (wanted w) w.allowance w.m cand top from to

  abbrev pub Ends_o : Stand Best → Stand Best → Type 0
  Ends_o from to = Led t tree (wanted w) w.allowance w.m cand o.top from to

  pub ended : {from to : Stand Best} → Ends_o from to → Ends from to
  ended {from} {to} h = subst (λ (n : ℕ). Led t tree (wanted w) w.allowance w.m cand n from to) top_so h

  -- past the last entry
  pub done : {from : Stand Best} {steps k : ℕ} {best : Best} → Goes from steps best k → o.many ≤ k → Ends from (stand steps false best)
  done {from} g h = ended (over readied w.allowance from g h)

  module _ (k : ℕ) (b : k < o.many) where
    pub at_list : o.first + k < length tree.shape.entries
    at_list = in_list z.passes readied.opens k b

    pub at_few : o.first + k < 65536
    at_few = in_few z.passes readied.opens k b

    abbrev pub named : ℕ
    named = get_or tree.shape.entries (o.first + k) 0

    abbrev pub y : Thing
    y = entry tree.shape o.node k

    y_is : thing o.leaf named ≡ y
    y_is = is_entry z.passes readied.opens k b

    pub read_in : Reads z.passes o.leaf named
    read_in = reads z.passes readied.opens k b

    -- where the columns of nodes are read for it
    room : Room tree.shape.nodes tree.shape.listed (lengths tree)
    room = (meets z.passes).counted.room

    pub kits_in : o.leaf ≡ false → named < length tree.kits
    kits_in u = omega (arith, read_in.node u, room.kits)

    pub sides_in : {s : Sides} → s ≡ tree.sides → o.leaf ≡ false → (named < length s.x_lo) × ((named < length s.x_hi) × ((named < length s.y_lo) × (named < length s.y_hi)))
    sides_in v u =
        let n = read_in.node u in (
          omega (arith, n, room.x_lo, ap (λ (s : Sides). length s.x_lo) v),
          (
            omega (arith, n, room.x_hi, ap (λ (s : Sides). length s.x_hi) v),
            (omega (arith, n, room.y_lo, ap (λ (s : Sides). length s.y_lo) v), omega (arith, n, room.y_hi, ap (λ (s : Sides). length s.y_hi) v)),
          ),
        )

    -- does it hold the kind?
    pub held_so : {u : Bool} → u ≡ held (kit_of t tree.kits (thing o.leaf named)) o.kind → u ≡ holds t tree (get_or (wanted w) o.top 0) y
    held_so h = h ∙ ap₂ (λ (x : Thing) (kind : ℕ). holds t tree kind x) y_is readied.opens.kind

    -- its box
    pub box_so : {d : Box} → d ≡ box_of t tree.sides (thing o.leaf named) → d ≡ box_of t tree.sides y
    box_so h = h ∙ ap (box_of t tree.sides) y_is

    pub box_ranged : {d : Box} → d ≡ box_of t tree.sides (thing o.leaf named) → Ranged d
    box_ranged h = subst Ranged (sym (box_so h)) (ranged z.passes y (real z.passes readied.opens k b))

    -- how far it is from the others
    abbrev pub far : ℕ
    far = farthest (box_of t tree.sides y) (without o.top (boxes_of (take w.m cand)))

    pub far_is : {d : Box} → d ≡ box_of t tree.sides (thing o.leaf named) → farthest d (without top (take w.m (boxes_at (sides_of c)))) ≡ far
    far_is h = ap₂ (λ (a : Box) (l : List Box). farthest a l) (box_so h) others_so

    module _ {from : Stand Best} {steps : ℕ} {best : Best} (g : Goes from steps best k) where
      pub skipped : {u : Bool} → u ≡ held (kit_of t tree.kits (thing o.leaf named)) o.kind → u ≡ false → Goes from steps best (k + 1)
      skipped h f = skips readied w.allowance from g b (sym (held_so h) ∙ f)

      module _ {u : Bool} (h : u ≡ held (kit_of t tree.kits (thing o.leaf named)) o.kind) (f : u ≡ true) where
        pub holding : holds t tree (get_or (wanted w) o.top 0) y ≡ true
        holding = sym (held_so h) ∙ f

        pub spent : {now : ℕ} {s : Bool} → Stepped w.allowance steps s now → s ≡ false → Ends from (stand now true best)
        spent q n = ended (spends readied w.allowance from g b holding (q.none n))

        module _ {now : ℕ} {s : Bool} (q : Stepped w.allowance steps s now) (y' : s ≡ true) where
          pub dropped : best.known ≡ true → best.squared < far → Goes from now best (k + 1)
          dropped = drops readied w.allowance from g b holding (q.some y')

          -- a distance that is known up to the limit
          module _ {d : Box} (is : d ≡ box_of t tree.sides (thing o.leaf named)) {limit row : ℕ} (l : limit ≡ limit_of best.known best.squared) (v : UpTo limit (farthest d (without top (take w.m (boxes_at (sides_of c))))) row) where
            up : UpTo limit far row
            up = subst (λ (n : ℕ). UpTo limit n row) (far_is is) v

            pub too_far : row < 18446744073709551616 → limit < row → Goes from now best (k + 1)
            too_far n m = dropped (up_known best l up n m) (up_far best l up n m)

            -- the candidates that come of it are groups
            pub learnt : (top + 1 ≡ w.m) → high ≡ 1 → length c.numbers ≡ 8 → row ≤ limit → {rest size : ℕ} → rest ≡ spread (without top (take w.m (boxes_at (sides_of c)))) → size ≡ max rest row →
                {places : List ℕ} → places ≡ padded (take w.m (set c.numbers top named)) → {new : Best} → new ≡ improved places size best → Goes from now new (k + 1)
            learnt last one eight m {rest} {size} rest_is size_is {places} places_is {new} new_is =
                learns readied w.allowance from g b holding (q.some y') (up_near best l up m) lasts
                (ap (λ (n : ℕ). take w.m (set c.numbers n named)) (sym top_so) ∙ next_numbers readied k b c.numbers (numbers_of _ c.numbers (sides_of c) w.m eight))
                (group_long w.m c.numbers top named eight z.few.most)
                (size_is ∙ ap₂ max (rest_is ∙ ap spread others_so) (up.near m) ∙ sym (next_made readied k b))
                (new_is ∙ ap (λ (l : List ℕ). improved l size best) places_is)
              where
                lasts : Last tree (things_of (take w.m cand)) o.top
                lasts = groups readied z.few.most high down (omega (arith, top_so, last)) one

-- in a leaf, whose entries are places, the columns of the table are read
module _ {t : Table} {tree : Tree} {w : Want} {top : ℕ} {c : Members} {o : Opening} (z : Round t tree w top 1 c o) (k : ℕ) (b : k < o.many) {e : ℕ} (n : e ≡ get_or tree.shape.entries (o.first + k) 0) where
  leaf_so : o.leaf ≡ true
  leaf_so = ap (λ (a : Opening). a.leaf) z.is

  is_place : place e ≡ thing o.leaf (get_or tree.shape.entries (o.first + k) 0)
  is_place = ap₂ thing (sym leaf_so) n

  pub place_in : (e < length t.x) × ((e < length t.y) × (e < length t.kit))
  place_in = subst (λ (j : ℕ). (j < length t.x) × ((j < length t.y) × (j < length t.kit))) (sym n) ((read_in z k b).place leaf_so)

  pub place_held : {u : Bool} → u ≡ held (get_or t.kit e 0) o.kind → u ≡ held (kit_of t tree.kits (thing o.leaf (get_or tree.shape.entries (o.first + k) 0))) o.kind
  place_held h = h ∙ ap (λ (x : Thing). held (kit_of t tree.kits x) o.kind) is_place

  pub place_box : {d : Box} → d ≡ box_at (sides t.x t.x t.y t.y) e → d ≡ box_of t tree.sides (thing o.leaf (get_or tree.shape.entries (o.first + k) 0))
  place_box h = h ∙ ap (box_of t tree.sides) is_place

-- Members that stand for a candidate: what they are, and one of them replaced.
-- Assumes nothing.
use mathlib.Core.Path.{◌≡◌, refl, sym, ap, subst, ◌∙◌}
use mathlib.Core.List.{List, [], ◌∷◌}
use mathlib.Core.Option.{none}
use Prim.Native.Nat.{ℕ, zero, suc, ◌≤◌, ◌<◌, max}
use native.Mathlib.Decide.{ℕ_discrete}
use native.Mathlib.Omega.{arith}
use lib.ListN.{length, take, get_or, set, length-set, length-map}
use lib.Seq.{length-take-le, get_or-take, take-set-lt, get_or-set_same, get_or-set_other}
use lib.Dec.{eqb}
use borrow.Author.Tests.{ne_eqb}
use Rattle.plane.specs.Plane.{Within, Ranged}
use Rattle.plane.specs.declared.Box.{Box}
use Rattle.plane.proofs.BoxLaws.{within_self}
use Rattle.table.specs.Table.{Table}
use Rattle.tree.specs.Tree.{Tree, Thing, place, node, thing, level, level_of, start_of, count_of, box_of}
use Rattle.closest.specs.Group.{farthest, spread}
use Rattle.closest.specs.Candidate.{number, member, topmost, group_of, entries_of, boxes_in}
use Rattle.closest.specs.Walk.{boxes}
use Rattle.walks.specs.Allowance.{Stand}
use Rattle.tree.proofs.TreeLaws.{linked}
use Rattle.closest.proofs.SpreadLaws.{Mates, spread_grows}
use Rattle.closest.proofs.CandidateLaws.{inside, open_is}
use Rattle.closest.proofs.EntryLaws.{is_place}
use Rattle.members.specs.Boxes.{without, AllRanged}
use Rattle.groups.specs.Members.{Member, member_of, members_of, Placed, nobody, boxes_of, thing_of, things_of, Real, Fair, Passes}
use Rattle.groups.specs.Opening.{Opened, Led}
use Rattle.groups.specs.Leads.{Near, leads}
use Rattle.members.specs.declared.Best.{Best}
use Rattle.groups.specs.declared.Opening.{Opening}
use Rattle.groups.proofs.Opens.{Opens}
use Rattle.groups.proofs.EntryLaws.{meets, ranged, node_high}
use Rattle.members.proofs.BoxesLaws.{spread_set}
use Rattle.groups.proofs.MemberLaws.{boxes_are, StandFor, stands_at, get_d_map, set_map, replaced_so}

all_ranged : (l : List Box) (d : Box) → ((i : ℕ) → i < length l → Ranged (get_or l i d)) → AllRanged l
all_ranged [] d h = tt
all_ranged (b ∷ l) d h = (h 0 (omega arith), all_ranged l d (λ i k. h (suc i) (omega arith)))

-- boxes with one replaced by a box that lies in it
mates_self : (l : List Box) → Mates l l
mates_self [] = tt
mates_self (b ∷ l) = (within_self b, mates_self l)

mates_set : (l : List Box) (i : ℕ) (b d : Box) → Within b (get_or l i d) → Mates l (set l i b)
mates_set [] i b d w = tt
mates_set (c ∷ l) zero b d w = (w, mates_self l)
mates_set (c ∷ l) (suc i) b d w = (within_self c, mates_set l i b d w)

-- a thing of a level is a node
high_node : (tree : Tree) (x : Thing) → 0 < level tree.shape x → x ≡ node (number x)
high_node tree (place q) h = absurd (omega arith)
high_node tree (node n) h = refl

-- only the first m members count
module _ {t : Table} {tree : Tree} {kinds : List ℕ} {m : ℕ} {c d : List Member} {top : ℕ} (e : take m c ≡ take m d) where
  pub opened_same : {best : Best} → Opened t tree kinds m c top best → Opened t tree kinds m d top best
  opened_same {best} i = record {
    fair = subst (Fair t tree kinds) e i.fair;
    is = i.is ∙ ap (λ (l : List Member). topmost tree.shape (things_of l)) e;
    whole = ap (λ (l : List Member). group_of tree.shape (things_of l)) (sym e) ∙ i.whole;
    near = subst (λ (l : List Member). Near best (spread (boxes_of l))) e i.near;
    eight = i.eight;
  }

  pub led_same : {allowance : ℕ} {from to : Stand Best} → Led t tree kinds allowance m c top from to → Led t tree kinds allowance m d top from to
  led_same {allowance} {from} {to} i = record {
    led = i.led ∙ ap (λ (l : List Member). leads t tree kinds allowance (things_of l) top (entries_of tree.shape (member (things_of l) top)) from) e;
    near = subst (λ (l : List Member). Near to.known (spread (boxes_of l))) e i.near;
    eight = i.eight;
  }

module _ {t : Table} {tree : Tree} (p : Passes t tree) where
  -- what stands for a thing that there is, stands for it only
  pub thing_of_lem : (x : Thing) → Real t tree x → thing_of (member_of t tree x) ≡ x
  thing_of_lem (place q) r = refl
  thing_of_lem (node n) r = ap (λ u. thing u n) (ne_eqb (level_of tree.shape n) 0 (λ e. omega (arith, node_high p n r)))

  module _ (kinds : List ℕ) (m : ℕ) (cand : List Member) (long : m ≤ length cand) (f : Fair t tree kinds (take m cand)) where
    pub stand : StandFor t tree m cand (things_of (take m cand))
    stand = record { long = long; so = f.so }

    pub many : length (things_of (take m cand)) ≡ m
    many = length-map (take m cand) thing_of ∙ length-take-le m cand long

    real_at : (i : ℕ) → i < m → Real t tree (member (things_of (take m cand)) i)
    real_at i h =
        let b : i < length (take m cand) = omega (arith, length-take-le m cand long) in
        subst (Real t tree) (sym (get_d_map thing_of (take m cand) i nobody (place 0) b)) (f.real i b)

    pub placed : Placed tree (things_of (take m cand))
    placed i h e = is_place (linked (meets p)) (member (things_of (take m cand)) i) (real_at i (omega (arith, many))) e

    -- the spread of the boxes of a candidate's members is that of its things
    pub spread_in : spread (boxes_of (take m cand)) ≡ spread (boxes_in (boxes t tree) kinds (things_of (take m cand)))
    spread_in = ap spread (boxes_are stand kinds (sym (length-map (take m cand) thing_of ∙ f.size)))

    box_at_lem : (i : ℕ) → i < m → get_or (boxes_of (take m cand)) i nobody.at ≡ box_of t tree.sides (member (things_of (take m cand)) i)
    box_at_lem i l =
        let b : i < length (take m cand) = omega (arith, length-take-le m cand long) in
        get_d_map (λ (a : Member). a.at) (take m cand) i nobody nobody.at b ∙ ap (λ (a : Member). a.at) (get_or-take m cand i nobody l ∙ stands_at stand i l)

    pub boxes_ranged : AllRanged (boxes_of (take m cand))
    boxes_ranged =
        all_ranged (boxes_of (take m cand)) nobody.at
        (λ i h.
        let l : i < m = omega (arith, length-map (take m cand) (λ (a : Member). a.at), length-take-le m cand long) in
        subst Ranged (sym (box_at_lem i l)) (ranged p (member (things_of (take m cand)) i) (real_at i l)))

    -- the topmost member of a candidate that is not a group is a node
    module _ (top : ℕ) (e : top ≡ topmost tree.shape (things_of (take m cand))) (g : group_of tree.shape (things_of (take m cand)) ≡ none) where
      high : 0 < level tree.shape (member (things_of (take m cand)) top)
      high = rw e (open_is tree.shape (things_of (take m cand)) g)

      pub top_inside : top < m
      top_inside = omega (arith, many, inside tree.shape (things_of (take m cand)) top high)

      top_node : member (things_of (take m cand)) top ≡ node (get_or cand top nobody).number
      top_node = high_node tree (member (things_of (take m cand)) top) high ∙ ap node (sym (ap (λ (a : Member). a.number) (stands_at stand top top_inside)))

      pub top_there : (get_or cand top nobody).number < tree.shape.nodes
      top_there = subst (Real t tree) top_node (real_at top top_inside)

      top_level : (get_or cand top nobody).level ≡ level_of tree.shape (get_or cand top nobody).number
      top_level = ap (λ (a : Member). a.level) (stands_at stand top top_inside) ∙ ap (level tree.shape) top_node

      -- what is kept of it
      pub opens : (all : List ℕ) (o : Opening) → kinds ≡ take m all →
          o ≡ record { top = top; node = (get_or cand top nobody).number; kind = get_or all top 0; leaf = eqb (get_or cand top nobody).level 1; first = start_of tree.shape (get_or cand top nobody).number; many = count_of tree.shape (get_or cand top nobody).number } →
          Opens tree kinds m cand o
      opens all o k q = subst (Opens tree kinds m cand) (sym q) (record {
        inside = top_inside;
        is = top_node;
        there = top_there;
        kind = sym (ap (λ (l : List ℕ). get_or l top 0) k ∙ get_or-take m all top 0 top_inside);
        leaf = ap (λ (l : ℕ). eqb l 1) top_level;
        first = refl;
        many = refl;
      })

    -- member i replaced by what stands for y
    module _ (i : ℕ) (y : Thing) (h : i < m) (r : Real t tree y) where
      pub things_set : things_of (take m (set cand i (member_of t tree y))) ≡ set (things_of (take m cand)) i y
      things_set =
          ap things_of (take-set-lt m cand i (member_of t tree y) h)
          ∙ sym (set_map thing_of (take m cand) i (member_of t tree y))
          ∙ ap (set (things_of (take m cand)) i) (thing_of_lem y r)

      real_set : (j : ℕ) → j < m → Real t tree (member (set (things_of (take m cand)) i y) j)
      real_set j l = go (ℕ_discrete j i)
        where
          go : Dec (j ≡ i) → Real t tree (member (set (things_of (take m cand)) i y) j)
          go (yes e) = rw (e, get_or-set_same (things_of (take m cand)) i y (place 0) (omega (arith, many))) r
          go (no n) = rw (get_or-set_other (things_of (take m cand)) i j y (place 0) n) (real_at j l)

      pub fair_set : Fair t tree kinds (take m (set cand i (member_of t tree y)))
      fair_set = record {
        size = length-take-le m (set cand i (member_of t tree y)) room ∙ sym (length-take-le m cand long) ∙ f.size;
        real = λ j l.
            subst (Real t tree) (ap (λ (d : List Thing). member d j) (sym things_set) ∙ get_d_map thing_of (take m (set cand i (member_of t tree y))) j nobody (place 0) l)
            (real_set j (omega (arith, length-take-le m (set cand i (member_of t tree y)) room)));
        so = replaced_so stand i y h ∙ ap (members_of t tree) (sym things_set);
      }
        where
          room : m ≤ length (set cand i (member_of t tree y))
          room = rw (length-set cand i (member_of t tree y)) long

      boxes_set : boxes_of (take m (set cand i (member_of t tree y))) ≡ set (boxes_of (take m cand)) i (box_of t tree.sides y)
      boxes_set = ap boxes_of (take-set-lt m cand i (member_of t tree y) h) ∙ sym (set_map (λ (a : Member). a.at) (take m cand) i (member_of t tree y))

      short : i < length (boxes_of (take m cand))
      short = omega (arith, length-map (take m cand) (λ (a : Member). a.at), length-take-le m cand long)

      -- its box goes into the spread of the others
      pub spread_next : spread (boxes_of (take m (set cand i (member_of t tree y)))) ≡ max (spread (without i (boxes_of (take m cand)))) (farthest (box_of t tree.sides y) (without i (boxes_of (take m cand))))
      spread_next = ap spread boxes_set ∙ spread_set (boxes_of (take m cand)) i (box_of t tree.sides y) short

      -- which lies in the box that it replaces, so that the spread does not fall
      pub spread_rises : Within (box_of t tree.sides y) (box_of t tree.sides (member (things_of (take m cand)) i)) → spread (boxes_of (take m cand)) ≤ spread (boxes_of (take m (set cand i (member_of t tree y))))
      spread_rises w =
          subst (λ (l : List Box). spread (boxes_of (take m cand)) ≤ spread l) (sym boxes_set)
          (spread_grows (boxes_of (take m cand)) (set (boxes_of (take m cand)) i (box_of t tree.sides y))
          (mates_set (boxes_of (take m cand)) i (box_of t tree.sides y) nobody.at (subst (Within (box_of t tree.sides y)) (sym (box_at_lem i h)) w)))

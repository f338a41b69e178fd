-- The candidate that is the root for each kind, as the code has it.
-- Assumes nothing.
use mathlib.Core.Path.{◌≡◌, refl, sym, ap, ap₂, subst, ◌∙◌}
use mathlib.Core.Bool.{true, false, false≢true}
use mathlib.Core.List.{List, ◌∷◌, map}
use mathlib.Core.Option.{none}
use Prim.Native.Nat.{ℕ, zero, suc, ◌≤◌, ◌<◌}
use native.Mathlib.Omega.{arith}
use lib.IntN.{pos}
use lib.ListN.{length, take, get_or, replicate, length-replicate, get_or-replicate}
use lib.Seq.{ext_get_or, get_or-take, length-take-le}
use Rattle.table.specs.Table.{Table}
use Rattle.tree.specs.Tree.{Tree, Shape, Sides, Thing, place, node, level, level_of, box_at}
use Rattle.tree.specs.Lent.{sides}
use Rattle.closest.specs.Candidate.{member, topmost, group_of, entries_of}
use Rattle.closest.specs.Walk.{roots}
use Rattle.plane.specs.declared.Box.{Box}
use Rattle.tree.specs.Rules.{lengths, Room}
use Rattle.walks.specs.Allowance.{Stand, stand}
use Rattle.closest.specs.Walk.{begins, stands_at}
use Rattle.closest.proofs.AnswerLaws.{begun_of}
use Rattle.members.specs.declared.Want.{Want}
use Rattle.members.specs.declared.Members.{Members}
use Rattle.members.specs.Columns.{eight_of}
use Rattle.members.specs.declared.Best.{Best}
use Rattle.members.specs.Best.{best_at}
use Rattle.groups.specs.Opening.{Opened, Led}
use Rattle.groups.specs.Leads.{leads}
use Rattle.groups.proofs.EntryLaws.{meets}
use Rattle.groups.proofs.TurnLaws.{taken_spent, taken_open}
use Rattle.groups.proofs.OpenLaws.{opened_same, led_same}
use Rattle.walk.specs.State.{state_of}
use Rattle.walk.proofs.BridgeLaws.{stood}
use Rattle.groups.specs.Members.{wanted, candidate, Few, Member, member_of, members_of, nobody, members_at, thing_of, things_of, Real, Fair, Passes}
use Rattle.groups.proofs.EntryLaws.{node_high}
use Rattle.members.specs.Levels.{levels_at}
use Rattle.members.proofs.LevelLaws.{from, levels_same, top_at}
use Rattle.groups.proofs.TurnLaws.{no_group}
use Rattle.groups.proofs.ColumnLaws.{members_long, member_at}
use Rattle.groups.proofs.OpenLaws.{thing_of_lem}

take_replicate : {A : Type 0} (m n : ℕ) (a : A) → m ≤ n → take m (replicate n a) ≡ replicate m a
take_replicate zero n a h = refl
take_replicate (suc m) zero a h = absurd (omega arith)
take_replicate (suc m) (suc n) a h = ap (λ l. a ∷ l) (take_replicate m n a (omega arith))

map_replicate : {A B : Type 0} (f : A → B) (m : ℕ) (a : A) → map f (replicate m a) ≡ replicate m (f a)
map_replicate f zero a = refl
map_replicate f (suc m) a = ap (λ l. f a ∷ l) (map_replicate f m a)

module _ {t : Table} {tree : Tree} (p : Passes t tree) (some : 0 < tree.shape.nodes) (kinds : List ℕ) (m : ℕ) (few : m ≤ 8) where
  root : Member
  root = member_of t tree (node 0)

  pub things_roots : length kinds ≡ m → things_of (take m (replicate 8 (member_of t tree (node 0)))) ≡ roots kinds
  things_roots e =
      ap things_of (take_replicate m 8 _ few) ∙ map_replicate thing_of m _ ∙ ap (replicate m) (thing_of_lem p (node 0) some) ∙ ap (λ (n : ℕ). replicate n (node 0)) (sym e)

  pub fair_roots : length kinds ≡ m → Fair t tree kinds (take m (replicate 8 (member_of t tree (node 0))))
  fair_roots e = record {
    size = ap length (take_replicate m 8 _ few) ∙ length-replicate m _ ∙ sym e;
    real = λ i h.
        subst (Real t tree) (sym (thing_of_lem p (node 0) some) ∙ sym (ap thing_of (at i (omega (arith, ap length (take_replicate m 8 (member_of t tree (node 0)) few), length-replicate m (member_of t tree (node 0)))))))
        some;
    so = take_replicate m 8 _ few
        ∙ sym (map_replicate (member_of t tree) m (node 0))
        ∙ ap (λ (n : ℕ). members_of t tree (replicate n (node 0))) (sym e)
        ∙ ap (members_of t tree) (sym (things_roots e));
  }
    where
      at : (i : ℕ) → i < m → get_or (take m (replicate 8 (member_of t tree (node 0)))) i nobody ≡ member_of t tree (node 0)
      at i h = ap (λ (l : List Member). get_or l i nobody) (take_replicate m 8 _ few) ∙ get_or-replicate m i _ nobody h

  -- it is opened at its first member
  member_roots : (i : ℕ) → i < m → member (replicate m (node 0)) i ≡ node 0
  member_roots i h = get_or-replicate m i (node 0) (place 0) h

  levels_roots : take m (levels_at m 0 (level tree.shape (node 0))) ≡ map (level tree.shape) (replicate m (node 0))
  levels_roots = levels_same m (level tree.shape (node 0)) few ∙ sym (map_replicate (level tree.shape) m (node 0))

  pub top_roots : 0 < m → topmost tree.shape (replicate m (node 0)) ≡ 0
  top_roots h = top_at m 0 (level tree.shape (node 0)) few tree.shape (replicate m (node 0)) levels_roots h (node_high p 0 some)

  pub whole_roots : 0 < m → group_of tree.shape (replicate m (node 0)) ≡ none
  whole_roots h = no_group tree.shape (replicate m (node 0)) (λ e. absurd (omega (arith, e, ap (λ (i : ℕ). level tree.shape (member (replicate m (node 0)) i)) (top_roots h), ap (level tree.shape) (member_roots 0 h), node_high p 0 some)))

-- the root in each column
module _ (m : ℕ) (a : Member) (few : m ≤ 8) where
  abbrev ends : Sides
  ends = sides (replicate 8 a.at.x.lo) (replicate 8 a.at.x.hi) (replicate 8 a.at.y.lo) (replicate 8 a.at.y.hi)

  abbrev columns : List Member
  columns = members_at (levels_at m 0 a.level) (replicate 8 a.number) ends

  at : (i : ℕ) → i < m → get_or columns i nobody ≡ a
  at i h =
      let l : i < 8 = omega arith in
      member_at (levels_at m 0 a.level) (replicate 8 a.number) ends i l
      ∙ (rw (
        from m 0 a.level few i h (omega arith),
        get_or-replicate 8 i a.number 0 l,
        get_or-replicate 8 i a.at.x.lo (pos 0) l,
        get_or-replicate 8 i a.at.x.hi (pos 0) l,
        get_or-replicate 8 i a.at.y.lo (pos 0) l,
        get_or-replicate 8 i a.at.y.hi (pos 0) l,
      ))

  pub columns_roots : take m columns ≡ take m (replicate 8 a)
  columns_roots =
      let size : length (take m columns) ≡ m = length-take-le m columns (omega (arith, members_long (levels_at m 0 a.level) (replicate 8 a.number) ends)) in
      ext_get_or nobody (take m columns) (take m (replicate 8 a)) (size ∙ sym (length-take-le m (replicate 8 a) (omega (arith, length-replicate 8 a))))
      (λ i l.
      let h : i < m = omega (arith, l, size) in
      get_or-take m columns i nobody h ∙ at i h ∙ sym (get_or-take m (replicate 8 a) i nobody h ∙ get_or-replicate 8 i a nobody (omega arith)))

-- the walk from the root on
module _ {t : Table} {tree : Tree} (p : Passes t tree) (w : Want) (few : Few w.m w.kinds) (eight : length w.kinds ≡ 8) (begun : begins t tree (wanted w) ≡ true) where
  abbrev nothing : Best
  nothing = best_at false 0 (replicate 8 0)

  some : 0 < tree.shape.nodes
  some = (begun_of (wanted w) begun).some

  -- the root is a node with a level and a box
  pub root_in : {s : Sides} → s ≡ tree.sides → (0 < length s.x_lo) × ((0 < length s.x_hi) × ((0 < length s.y_lo) × (0 < length s.y_hi)))
  root_in v =
      let room : Room tree.shape.nodes tree.shape.listed (lengths tree) = (meets p).counted.room in (
        omega (arith, some, room.x_lo, ap (λ (s : Sides). length s.x_lo) v),
        (
          omega (arith, some, room.x_hi, ap (λ (s : Sides). length s.x_hi) v),
          (omega (arith, some, room.y_lo, ap (λ (s : Sides). length s.y_lo) v), omega (arith, some, room.y_hi, ap (λ (s : Sides). length s.y_hi) v)),
        ),
      )

  pub level_in : {s : Shape} → s ≡ tree.shape → 0 < length s.level
  level_in v =
      let room : Room tree.shape.nodes tree.shape.listed (lengths tree) = (meets p).counted.room in
      omega (arith, some, room.level, ap (λ (s : Shape). length s.level) v)

  many : length (wanted w) ≡ w.m
  many = length-take-le w.m w.kinds (omega (arith, eight, few.most))

  things : things_of (take w.m (replicate 8 (member_of t tree (node 0)))) ≡ roots (wanted w)
  things = things_roots p some (wanted w) w.m few.most many

  roots_so : roots (wanted w) ≡ replicate w.m (node 0)
  roots_so = ap (λ (n : ℕ). replicate n (node 0)) many

  top : topmost tree.shape (roots (wanted w)) ≡ 0
  top = ap (topmost tree.shape) roots_so ∙ top_roots p some (wanted w) w.m few.most few.some

  whole : group_of tree.shape (roots (wanted w)) ≡ none
  whole = ap (group_of tree.shape) roots_so ∙ whole_roots p some (wanted w) w.m few.most few.some

  opened : Opened t tree (wanted w) w.m (replicate 8 (member_of t tree (node 0))) 0 nothing
  opened = record {
    fair = fair_roots p some (wanted w) w.m few.most many;
    is = sym (ap (topmost tree.shape) things ∙ top);
    whole = ap (group_of tree.shape) things ∙ whole;
    near = λ e. absurd (false≢true e);
    eight = refl;
  }

  -- the allowance is spent before it
  pub none_walked : w.allowance ≤ 0 → record { steps = 0; spent = true; best = nothing } ≡ state_of t (stands_at t tree (wanted w) w.allowance)
  none_walked h = stood (meets p) (wanted w) begun w.allowance (stand 0 true nothing) (sym (taken_spent t tree (wanted w) w.allowance (roots (wanted w)) 0 nothing h))

  module _ {l : ℕ} (e : l ≡ level_of tree.shape 0) {b : Box} (is : b ≡ box_at tree.sides 0) {c : Members} (all : c ≡ eight_of 0 b) where
    abbrev cand : List Member
    cand = candidate w.m 0 l c

    so : take w.m cand ≡ take w.m (replicate 8 (member_of t tree (node 0)))
    so = ap (λ (a : Members). take w.m (candidate w.m 0 l a)) all ∙ columns_roots w.m (record { level = l; number = 0; at = b }) few.most ∙ ap₂ (λ (v : ℕ) (d : Box). take w.m (replicate 8 (record { level = v; number = 0; at = d }))) e is

    pub roots_opened : Opened t tree (wanted w) w.m cand 0 nothing
    roots_opened = opened_same (sym so) opened

    pub roots_walked : {after : Stand Best} → Led t tree (wanted w) w.allowance w.m cand 0 (stand 1 false nothing) after → 0 < w.allowance → record { steps = after.steps; spent = after.spent; best = after.known } ≡ state_of t (stands_at t tree (wanted w) w.allowance)
    roots_walked {after} led h =
        let from = ap₂ (λ (q : List Thing) (i : ℕ). leads t tree (wanted w) w.allowance q i (entries_of tree.shape (member q i)) (stand 1 false nothing)) things (sym top) in
        stood (meets p) (wanted w) begun w.allowance after
        ((led_same so led).led ∙ from ∙ sym (taken_open t tree (wanted w) w.allowance (roots (wanted w)) 0 nothing h (λ e. absurd (false≢true e)) whole))

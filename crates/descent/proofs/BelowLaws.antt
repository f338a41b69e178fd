-- The candidate that comes of an entry, in its columns: it is opened in its turn, and all that comes of it is taken.
-- Assumes nothing.
use mathlib.Core.Path.{◌≡◌, refl, sym, ap, ap₂, subst, ◌∙◌}
use mathlib.Core.Bool.{Bool, true, false}
use mathlib.Core.List.{List}
use mathlib.Core.Option.{none}
use Prim.Native.Nat.{ℕ, ◌+◌, ◌-◌, ◌*◌, ◌≤◌, ◌<◌}
use native.Mathlib.Decide.{dec_lt}
use native.Mathlib.Omega.{arith}
use lib.ListN.{take, set}
use Rattle.kit.specs.Kit.{held}
use Rattle.plane.specs.declared.Box.{Box}
use Rattle.table.specs.Table.{Table}
use Rattle.tree.specs.Tree.{Tree, Sides, thing, level, box_of, kit_of}
use Rattle.walks.specs.Allowance.{Stand, stand}
use Rattle.closest.specs.Group.{farthest}
use Rattle.closest.specs.Candidate.{topmost, group_of}
use Rattle.members.specs.declared.Members.{Members}
use Rattle.members.specs.declared.Want.{Want}
use Rattle.members.specs.Boxes.{without, AllRanged, boxes_at}
use Rattle.members.specs.Columns.{sides_of, with_member}
use Rattle.members.specs.Levels.{levels_at, next_top, next_high}
use Rattle.members.specs.declared.Best.{Best}
use Rattle.members.specs.Best.{near, Stepped}
use Rattle.members.proofs.LevelLaws.{top_on, top_back, high_on, high_back, levels_eight, levels_next}
use Rattle.groups.specs.Members.{Member, boxes_of, things_of, wanted, candidate, members_at}
use Rattle.groups.specs.Opening.{Opened, Led}
use Rattle.groups.specs.Leads.{Near}
use Rattle.groups.specs.declared.Opening.{Opening}
use Rattle.groups.proofs.ColumnLaws.{boxes_of_lem, Eight, put, members_set, Beside, others_same}
use Rattle.groups.proofs.OpenLaws.{boxes_ranged}
use Rattle.groups.proofs.NextLaws.{lower, next, next_long, next_fair, next_things, lower_is, top_below, more_below, member_is, comes, near_so, far_so}
use Rattle.groups.proofs.LoopLaws.{goes_on, stops}
use Rattle.groups.proofs.RoundLaws.{Round, cand, readied, down, top_in, top_so, Goes, Ends, ended, named, y, box_so, far, far_is, holding}

-- less is left of the levels once the topmost member is replaced
pub falls : (m top high : ℕ) → m ≤ 8 → top < m → 0 < high → next_high m top high * 8 + 8 - next_top m top < high * 8 + 8 - top
falls m top high few h p = go (dec_lt (top + 1) m)
  where
    go : Dec (top + 1 < m) → next_high m top high * 8 + 8 - next_top m top < high * 8 + 8 - top
    go (yes l) = omega (arith, top_on m top l, high_on m top high l)
    go (no l) = omega (arith, top_back m top (omega arith), high_back m top high (omega arith))

module _ {t : Table} {tree : Tree} {w : Want} {top high : ℕ} {c : Members} {o : Opening} (z : Round t tree w top high c o) (k : ℕ) (b : k < o.many) where
  inside : top < w.m
  inside = top_in z.passes w z.few top high c z.opened

  abbrev came : List Member
  came = next (readied z) k b

  -- in its columns
  module _ (eight : Eight c.numbers (sides_of c)) {own made : Members} (beside : Beside top own.numbers (sides_of own) c.numbers (sides_of c)) {number : ℕ} {d : Box} (p : number ≡ named z k b) (is : d ≡ box_of t tree.sides (thing o.leaf (named z k b)))
      (so : made ≡ with_member own top number d) {top' high' : ℕ} (e : top' ≡ next_top w.m top) (f : high' ≡ next_high w.m top high) where
    pub came_so : candidate w.m top' high' made ≡ came
    came_so =
        ap (candidate w.m top' high') (so ∙ ap (λ (n : ℕ). with_member own top n d) p)
        ∙ ap₂ (λ (i v : ℕ). members_at (levels_at w.m i v) (set own.numbers top (named z k b)) (put (sides_of own) top d)) e f
        ∙ ap (λ (q : List ℕ). members_at q (set own.numbers top (named z k b)) (put (sides_of own) top d)) (sym (levels_next w.m top high z.few.most inside))
        ∙ ap₂ (λ (q : List ℕ) (s : Sides). members_at (set (levels_at w.m top high) top (high - 1)) q s) (beside.number (named z k b)) (beside.box d)
        ∙ members_set (levels_at w.m top high) c.numbers (sides_of c) (levels_eight w.m top high z.few.most) eight top (omega (arith, inside, z.few.most)) (high - 1) (named z k b) d
        ∙ ap₂ (λ (i : ℕ) (a : Member). set (cand z) i a) (sym (top_so z)) (member_is (readied z) k b (high - 1) (named z k b) d low refl (box_so z k b is))
      where
        low : high - 1 ≡ level tree.shape (y z k b)
        low = lower_is (readied z) z.few.most high (down z) (y z k b) (lower (readied z) k b)

    pub came_ranged : AllRanged (take w.m (boxes_at (sides_of made)))
    came_ranged =
        subst AllRanged (ap (λ (q : List Member). boxes_of (take w.m q)) (sym came_so) ∙ boxes_of_lem _ made.numbers (sides_of made) w.m)
        (boxes_ranged z.passes (wanted w) w.m came (next_long (readied z) k b) (next_fair (readied z) k b))

  -- it is no group
  module _ (some : 0 < next_high w.m top high) where
    left : 0 < next_high w.m o.top high
    left = subst (λ (i : ℕ). 0 < next_high w.m i high) (sym (top_so z)) some

    open_next : group_of tree.shape (set (things_of (take w.m (cand z))) o.top (y z k b)) ≡ none
    open_next = more_below (readied z) z.few.most high (down z) (y z k b) (lower (readied z) k b) left

    top_next : next_top w.m top ≡ topmost tree.shape (set (things_of (take w.m (cand z))) o.top (y z k b))
    top_next = ap (next_top w.m) (sym (top_so z)) ∙ sym (top_below (readied z) z.few.most high (down z) (y z k b) (lower (readied z) k b) left)

    module _ {from : Stand Best} {steps : ℕ} {best : Best} (g : Goes z from steps best k) (near : Near best (far z k b)) where
      pub opened_next : Opened t tree (wanted w) w.m came (next_top w.m top) best
      opened_next = record {
        fair = next_fair (readied z) k b;
        is = top_next ∙ ap (topmost tree.shape) (sym (next_things (readied z) k b));
        whole = ap (group_of tree.shape) (next_things (readied z) k b) ∙ open_next;
        near = comes (readied z) k b best g.near near;
        eight = g.eight;
      }

      module _ {u : Bool} (h : u ≡ held (kit_of t tree.kits (thing o.leaf (named z k b))) o.kind) (f : u ≡ true) {now : ℕ} {s : Bool} (q : Stepped w.allowance steps s now) (y' : s ≡ true)
          {v : Stand Best} (led : Led t tree (wanted w) w.allowance w.m came (next_top w.m top) (stand now false best) v) where
        led_next : Led t tree (wanted w) w.allowance w.m came (topmost tree.shape (set (things_of (take w.m (cand z))) o.top (y z k b))) (stand now false best) v
        led_next = subst (λ (i : ℕ). Led t tree (wanted w) w.allowance w.m came i (stand now false best) v) top_next led

        pub stopped : v.spent ≡ true → Ends z from v
        stopped e = ended z (stops (readied z) w.allowance from g b (holding z k b g h f) (q.some y') near open_next led_next e)

        pub went_on : v.spent ≡ false → Goes z from v.steps v.known (k + 1)
        went_on e = goes_on (readied z) w.allowance from g b (holding z k b g h f) (q.some y') near open_next led_next e

  -- the same, in the columns
  module _ (eight : Eight c.numbers (sides_of c)) {own made : Members} (beside : Beside top own.numbers (sides_of own) c.numbers (sides_of c)) {number : ℕ} {d : Box} (p : number ≡ named z k b) (is : d ≡ box_of t tree.sides (thing o.leaf (named z k b)))
      (so : made ≡ with_member own top number d) {top' high' : ℕ} (e : top' ≡ next_top w.m top) (f : high' ≡ next_high w.m top high) (some : 0 < next_high w.m top high) {from : Stand Best} {steps : ℕ} {best : Best} (g : Goes z from steps best k)
      (near : Near best (far z k b)) where
    abbrev same : candidate w.m top' high' made ≡ came
    same = came_so eight beside p is so e f

    pub opens_below : Opened t tree (wanted w) w.m (candidate w.m top' high' made) top' best
    opens_below =
        subst (λ (i : ℕ). Opened t tree (wanted w) w.m (candidate w.m top' high' made) i best) (sym e)
        (subst (λ (q : List Member). Opened t tree (wanted w) w.m q (next_top w.m top) best) (sym same) (opened_next some g near))

    module _ {u : Bool} (h : u ≡ held (kit_of t tree.kits (thing o.leaf (named z k b))) o.kind) (y' : u ≡ true) {now : ℕ} {s : Bool} (q : Stepped w.allowance steps s now) (i' : s ≡ true)
        {after : ℕ} {r : Bool} {learnt : Best} (led : Led t tree (wanted w) w.allowance w.m (candidate w.m top' high' made) top' (stand now false best) (stand after r learnt)) where
      led_so : Led t tree (wanted w) w.allowance w.m came (next_top w.m top) (stand now false best) (stand after r learnt)
      led_so =
          subst (λ (x : List Member). Led t tree (wanted w) w.allowance w.m x (next_top w.m top) (stand now false best) (stand after r learnt)) same
          (subst (λ (i : ℕ). Led t tree (wanted w) w.allowance w.m (candidate w.m top' high' made) i (stand now false best) (stand after r learnt)) e led)

      pub stops_below : r ≡ true → Ends z from (stand after true learnt)
      stops_below n = subst (λ (a : Bool). Ends z from (stand after a learnt)) n (stopped some g near h y' q i' led_so n)

      pub goes_below : r ≡ false → Goes z from after learnt (k + 1)
      goes_below n = went_on some g near h y' q i' led_so n

  -- what the test of its box says, in columns that differ in the topmost member at most
  module _ (eight : Eight c.numbers (sides_of c)) {own : Members} (eight' : Eight own.numbers (sides_of own)) (beside : Beside top own.numbers (sides_of own) c.numbers (sides_of c)) {d : Box} (is : d ≡ box_of t tree.sides (thing o.leaf (named z k b)))
      (best : Best) {r : Bool} (e : r ≡ near best.known best.squared (farthest d (without top (take w.m (boxes_at (sides_of own)))))) where
    test : r ≡ near best.known best.squared (far z k b)
    test = e ∙ ap (λ (l : List Box). near best.known best.squared (farthest d l)) (others_same w.m top beside eight' eight z.few.most inside) ∙ ap (near best.known best.squared) (far_is z k b is)

    pub near_next : r ≡ true → Near best (far z k b)
    near_next n = near_so best (far z k b) (sym test ∙ n)

    pub beyond : r ≡ false → (best.known ≡ true) × (best.squared < far z k b)
    beyond n = far_so best (far z k b) (sym test ∙ n)

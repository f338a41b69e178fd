use Rattle.std.proofs.Common.{refl, ◌≡◌, ◌+◌, ◌-◌, ◌*◌, ◌<◌, ◌∙◌, sym, ap, ap₂, subst, length, get_or, arith, ℕ, false}
use Rattle.tree.specs.Tree.{Tree, Shape, Sides, thing, box_of}
use Rattle.walks.specs.Allowance.{stand}
use Rattle.members.specs.declared.Best.{Best}
use Rattle.members.specs.Columns.{sides_of}
use Rattle.members.specs.Levels.{next_high}
use Rattle.members.proofs.LevelLaws.{top_in as next_in, high_last}
use Rattle.groups.specs.Members.{wanted, candidate}
use Rattle.groups.specs.Opening.{Opened, Led}
use Rattle.groups.proofs.ColumnLaws.{Eight, eight_put, beside_put}
use Rattle.groups.proofs.LoopLaws.{Going}
use Rattle.groups.proofs.RoundLaws.{round, top_in, top_high, node_in, ranged_in, kind_in, done, at_list, at_few, read_in, kits_in, sides_in, box_ranged, skipped, spent, dropped}
use Rattle.descent.proofs.BelowLaws.{falls, came_ranged, near_next, beyond, opens_below, stops_below, goes_below}
use Rattle.descent.proofs.+descend.Goals as goal
use Rattle.descent.proofs.+descend.Goals.{then-holds_at+else-not-take_step+then-is_near+then-left-eq0+else-take_groups, then-holds_at+else-not-take_step+then-is_near+else-left-eq0+else-descend, then-holds_at+else-not-take_step+else-is_near, else-holds_at}

pub next_top-next-requires : goal.next_top-next-requires
next_top-next-requires t c = (c.requires.few.most, top_in c.requires.passes c.args.w.now c.requires.few c.args.top c.args.high c.args.c.now c.requires.opened)

pub next_high-lower-requires : goal.next_high-lower-requires
next_high-lower-requires t c =
    (c.requires.few.most, (top_in c.requires.passes c.args.w.now c.requires.few c.args.top c.args.high c.args.c.now c.requires.opened, top_high c.requires.passes c.args.w.now c.requires.few c.args.top c.args.high c.args.c.now c.requires.opened))

-- ---- a candidate of which groups come

pub take_groups-requires-clause-few : goal.take_groups-requires-clause-few
take_groups-requires-clause-few t c =
    let i = top_in c.requires.passes c.args.w.now c.requires.few c.args.top c.args.high c.args.c.now c.requires.opened in
    let h = top_high c.requires.passes c.args.w.now c.requires.few c.args.top c.args.high c.args.c.now c.requires.opened in
    (c.requires.few, (high_last c.args.w.now.m c.args.top c.args.high i h (sym c.next_high-lower.ensures ∙ c.if-lower-eq0.true)).0)

pub take_groups-requires-clause-opened : goal.take_groups-requires-clause-opened
take_groups-requires-clause-opened t c =
    let i = top_in c.requires.passes c.args.w.now c.requires.few c.args.top c.args.high c.args.c.now c.requires.opened in
    let h = top_high c.requires.passes c.args.w.now c.requires.few c.args.top c.args.high c.args.c.now c.requires.opened in
    let leaf = (high_last c.args.w.now.m c.args.top c.args.high i h (sym c.next_high-lower.ensures ∙ c.if-lower-eq0.true)).1 in
    subst (λ (v : ℕ). Opened c.args.t.now c.args.tree.now (wanted c.args.w.now) c.args.w.now.m (candidate c.args.w.now.m c.args.top v c.args.c.now) c.args.top c.args.p.now.best) leaf c.requires.opened

pub returns-then-lower-eq0 : goal.returns-then-lower-eq0
returns-then-lower-eq0 t c =
    let i = top_in c.requires.passes c.args.w.now c.requires.few c.args.top c.args.high c.args.c.now c.requires.opened in
    let h = top_high c.requires.passes c.args.w.now c.requires.few c.args.top c.args.high c.args.c.now c.requires.opened in
    let leaf = (high_last c.args.w.now.m c.args.top c.args.high i h (sym c.next_high-lower.ensures ∙ c.if-lower-eq0.true)).1 in
    subst
    (λ (v : ℕ).
    Led c.args.t.now c.args.tree.now (wanted c.args.w.now) c.args.w.now.allowance c.args.w.now.m (candidate c.args.w.now.m c.args.top v c.args.c.now) c.args.top (stand c.args.p.now.steps false c.args.p.now.best) (stand c.take_groups.new.p.steps c.take_groups.result c.take_groups.new.p.best))
    (sym leaf) c.take_groups.ensures

-- ---- any other is opened

pub offset_bounds-c-top : goal.offset_bounds-c-top
offset_bounds-c-top t c = omega (arith, top_in c.requires.passes c.args.w.now c.requires.few c.args.top c.args.high c.args.c.now c.requires.opened, c.requires.few.most)

pub bounds-c-top : goal.bounds-c-top
bounds-c-top t c = omega (arith, top_in c.requires.passes c.args.w.now c.requires.few c.args.top c.args.high c.args.c.now c.requires.opened, c.requires.few.most)

pub open_at-o-requires : goal.open_at-o-requires
open_at-o-requires t c = node_in c.requires.passes c.args.w.now c.requires.few c.args.top c.args.high c.args.c.now c.requires.opened (ap (λ (r : Tree). r.shape) c.tree.view_is)

pub loop-k-init : goal.loop-k-init
loop-k-init t c = record {
  going = record { some = omega arith; led = refl; near = c.requires.opened.near; eight = c.requires.opened.eight };
  beside = record { number = λ p. refl; box = λ d. refl };
  eight = record { number = omega arith; x_lo = omega arith; x_hi = omega arith; y_lo = omega arith; y_hi = omega arith };
  ranged = ranged_in (round c.args.w.now c.args.top c.args.high c.args.c.now c.requires.passes c.requires.few c.requires.opened (ap (λ (r : Tree). r.shape) c.tree.view_is) c.open_at-o.ensures);
}

pub overflow_add-here : goal.overflow_add-here
overflow_add-here t c =
    let z = round c.args.w.now c.args.top c.args.high c.args.c.now c.requires.passes c.requires.few c.requires.opened (ap (λ (r : Tree). r.shape) c.tree.view_is) c.open_at-o.ensures in
    omega (arith, at_few z c.loop-k.k c.loop-k-test.true)

pub holds_at-requires-clause-i_in_bounds : goal.holds_at-requires-clause-i_in_bounds
holds_at-requires-clause-i_in_bounds t c =
    let z = round c.args.w.now c.args.top c.args.high c.args.c.now c.requires.passes c.requires.few c.requires.opened (ap (λ (r : Tree). r.shape) c.tree.view_is) c.open_at-o.ensures in
    (at_list z c.loop-k.k c.loop-k-test.true, kind_in z)

pub holds_at-requires-clause-i_in_bounds_2 : goal.holds_at-requires-clause-i_in_bounds_2
holds_at-requires-clause-i_in_bounds_2 t c =
    let z = round c.args.w.now c.args.top c.args.high c.args.c.now c.requires.passes c.requires.few c.requires.opened (ap (λ (r : Tree). r.shape) c.tree.view_is) c.open_at-o.ensures in
    λ u. ((read_in z c.loop-k.k c.loop-k-test.true).place u).1.1

pub holds_at-requires-clause-i_in_bounds_3 : goal.holds_at-requires-clause-i_in_bounds_3
holds_at-requires-clause-i_in_bounds_3 t c =
    let z = round c.args.w.now c.args.top c.args.high c.args.c.now c.requires.passes c.requires.few c.requires.opened (ap (λ (r : Tree). r.shape) c.tree.view_is) c.open_at-o.ensures in
    kits_in z c.loop-k.k c.loop-k-test.true

pub returns-then-not-take_step : goal.returns-then-not-take_step
returns-then-not-take_step t c =
    let z = round c.args.w.now c.args.top c.args.high c.args.c.now c.requires.passes c.requires.few c.requires.opened (ap (λ (r : Tree). r.shape) c.tree.view_is) c.open_at-o.ensures in
    rw c.take_step.ensures.kept (spent z c.loop-k.k c.loop-k-test.true c.loop-k.invariant.going (c.holds_at.ensures c.args.t.now.x c.args.t.now.y) c.if-holds_at.true c.take_step.ensures.stepped c.if-not-take_step.true)

pub offset_bounds-entries-here : goal.offset_bounds-entries-here
offset_bounds-entries-here t c =
    let z = round c.args.w.now c.args.top c.args.high c.args.c.now c.requires.passes c.requires.few c.requires.opened (ap (λ (r : Tree). r.shape) c.tree.view_is) c.open_at-o.ensures in
    omega (arith, at_few z c.loop-k.k c.loop-k-test.true)

pub bounds-entries-here : goal.bounds-entries-here
bounds-entries-here t c =
    let v = ap (λ (r : Tree). r.shape) c.tree.view_is in
    let z = round c.args.w.now c.args.top c.args.high c.args.c.now c.requires.passes c.requires.few c.requires.opened v c.open_at-o.ensures in
    let e : length c.shape.inside.entries.now ≡ length c.args.tree.now.shape.entries = ap (λ (s : Shape). length s.entries) (c.shape.view_is ∙ v) in
    omega (arith, at_list z c.loop-k.k c.loop-k-test.true, e)

pub box_of-b-requires-clause-e_in_bounds : goal.box_of-b-requires-clause-e_in_bounds
box_of-b-requires-clause-e_in_bounds t c =
    let v = ap (λ (r : Tree). r.shape) c.tree.view_is in
    let z = round c.args.w.now c.args.top c.args.high c.args.c.now c.requires.passes c.requires.few c.requires.opened v c.open_at-o.ensures in
    let n = c.from.ensures ∙ ap (λ (s : Shape). get_or s.entries (c.open_at-o.result.first + c.loop-k.k) 0) (c.shape.view_is ∙ v) in
    λ u.
    let r = (read_in z c.loop-k.k c.loop-k-test.true).place u in
    subst (λ (j : ℕ). (j < length c.args.t.now.x) × (j < length c.args.t.now.y)) (sym n) (r.0, r.1.0)

pub box_of-b-requires-clause-e_in_bounds_2 : goal.box_of-b-requires-clause-e_in_bounds_2
box_of-b-requires-clause-e_in_bounds_2 t c =
    let v = ap (λ (r : Tree). r.shape) c.tree.view_is in
    let z = round c.args.w.now c.args.top c.args.high c.args.c.now c.requires.passes c.requires.few c.requires.opened v c.open_at-o.ensures in
    let n = c.from.ensures ∙ ap (λ (s : Shape). get_or s.entries (c.open_at-o.result.first + c.loop-k.k) 0) (c.shape.view_is ∙ v) in
    let b = c.tree.inside.sides in
    λ u.
    subst (λ (j : ℕ). (j < length b.x_lo) × ((j < length b.x_hi) × ((j < length b.y_lo) × (j < length b.y_hi)))) (sym n) (sides_in z c.loop-k.k c.loop-k-test.true (ap (λ (r : Tree). r.sides) c.tree.view_is) u)

pub is_near-requires-clause-m_bound : goal.is_near-requires-clause-m_bound
is_near-requires-clause-m_bound t c = (c.requires.few.most, top_in c.requires.passes c.args.w.now c.requires.few c.args.top c.args.high c.args.c.now c.requires.opened)

pub is_near-requires-clause-all_ranged : goal.is_near-requires-clause-all_ranged
is_near-requires-clause-all_ranged t c =
    let v = ap (λ (r : Tree). r.shape) c.tree.view_is in
    let z = round c.args.w.now c.args.top c.args.high c.args.c.now c.requires.passes c.requires.few c.requires.opened v c.open_at-o.ensures in
    let n = c.from.ensures ∙ ap (λ (s : Shape). get_or s.entries (c.open_at-o.result.first + c.loop-k.k) 0) (c.shape.view_is ∙ v) in
    let is = (c.box_of-b.ensures c.args.t.now.kit) ∙ ap₂ (λ (s : Sides) (j : ℕ). box_of c.args.t.now s (thing c.open_at-o.result.leaf j)) (ap (λ (r : Tree). r.sides) c.tree.view_is) n in
    (c.loop-k.invariant.ranged, box_ranged z c.loop-k.k c.loop-k-test.true is)

pub put-requires : goal.put-requires
put-requires t c = omega (arith, top_in c.requires.passes c.args.w.now c.requires.few c.args.top c.args.high c.args.c.now c.requires.opened, c.requires.few.most)

-- ---- the candidate that comes of an entry

pub take_groups-requires-then-left-eq0-clause-opened : goal.take_groups-requires-then-left-eq0-clause-opened
take_groups-requires-then-left-eq0-clause-opened t c =
    let v = ap (λ (r : Tree). r.shape) c.tree.view_is in
    let z = round c.args.w.now c.args.top c.args.high c.args.c.now c.requires.passes c.requires.few c.requires.opened v c.open_at-o.ensures in
    let m = ap (λ (s : Shape). get_or s.entries (c.open_at-o.result.first + c.loop-k.k) 0) (c.shape.view_is ∙ v) in
    let eight : Eight c.args.c.now.numbers (sides_of c.args.c.now) = record { number = omega arith; x_lo = omega arith; x_hi = omega arith; y_lo = omega arith; y_hi = omega arith } in
    let some : 0 < next_high c.args.w.now.m c.args.top c.args.high = omega (arith, c.if-lower-eq0.false, c.next_high-lower.ensures) in
    let is = (c.box_of-b.ensures c.args.t.now.kit) ∙ ap₂ (λ (s : Sides) (j : ℕ). box_of c.args.t.now s (thing c.open_at-o.result.leaf j)) (ap (λ (r : Tree). r.sides) c.tree.view_is) (c.from.ensures ∙ m) in
    let g = subst (λ (q : Best). Going c.args.t.now c.args.tree.now (wanted c.args.w.now) c.args.w.now.allowance c.args.w.now.m (candidate c.args.w.now.m c.args.top c.args.high c.args.c.now) c.open_at-o.result (stand c.args.p.now.steps false c.args.p.now.best) c.loop-k.p.steps q c.loop-k.k) (sym c.take_step.ensures.kept) c.loop-k.invariant.going in
    let near = near_next z c.loop-k.k c.loop-k-test.true eight c.loop-k.invariant.eight c.loop-k.invariant.beside is c.take_step.new.self.best c.is_near.ensures c.if-is_near.true in
    let next : c.next_top-next.result < c.args.w.now.m = omega (arith, c.next_top-next.ensures, next_in c.args.w.now.m c.args.top (top_in c.requires.passes c.args.w.now c.requires.few c.args.top c.args.high c.args.c.now c.requires.opened)) in
    let leaf = (high_last c.args.w.now.m c.next_top-next.result c.next_high-lower.result next (omega (arith, c.if-lower-eq0.false)) (sym c.next_high-left.ensures ∙ c.if-left-eq0.true)).1 in
    opens_below z c.loop-k.k c.loop-k-test.true eight c.loop-k.invariant.beside m is c.put.ensures c.next_top-next.ensures (sym leaf ∙ c.next_high-lower.ensures) some g near

pub returns-then-take_groups : goal.returns-then-take_groups
returns-then-take_groups t c =
    let v = ap (λ (r : Tree). r.shape) c.tree.view_is in
    let z = round c.args.w.now c.args.top c.args.high c.args.c.now c.requires.passes c.requires.few c.requires.opened v c.open_at-o.ensures in
    let m = ap (λ (s : Shape). get_or s.entries (c.open_at-o.result.first + c.loop-k.k) 0) (c.shape.view_is ∙ v) in
    let eight : Eight c.args.c.now.numbers (sides_of c.args.c.now) = record { number = omega arith; x_lo = omega arith; x_hi = omega arith; y_lo = omega arith; y_hi = omega arith } in
    let some : 0 < next_high c.args.w.now.m c.args.top c.args.high = omega (arith, c.if-lower-eq0.false, c.next_high-lower.ensures) in
    let is = (c.box_of-b.ensures c.args.t.now.kit) ∙ ap₂ (λ (s : Sides) (j : ℕ). box_of c.args.t.now s (thing c.open_at-o.result.leaf j)) (ap (λ (r : Tree). r.sides) c.tree.view_is) (c.from.ensures ∙ m) in
    let g = subst (λ (q : Best). Going c.args.t.now c.args.tree.now (wanted c.args.w.now) c.args.w.now.allowance c.args.w.now.m (candidate c.args.w.now.m c.args.top c.args.high c.args.c.now) c.open_at-o.result (stand c.args.p.now.steps false c.args.p.now.best) c.loop-k.p.steps q c.loop-k.k) (sym c.take_step.ensures.kept) c.loop-k.invariant.going in
    let near = near_next z c.loop-k.k c.loop-k-test.true eight c.loop-k.invariant.eight c.loop-k.invariant.beside is c.take_step.new.self.best c.is_near.ensures c.if-is_near.true in
    let next : c.next_top-next.result < c.args.w.now.m = omega (arith, c.next_top-next.ensures, next_in c.args.w.now.m c.args.top (top_in c.requires.passes c.args.w.now c.requires.few c.args.top c.args.high c.args.c.now c.requires.opened)) in
    let leaf = (high_last c.args.w.now.m c.next_top-next.result c.next_high-lower.result next (omega (arith, c.if-lower-eq0.false)) (sym c.next_high-left.ensures ∙ c.if-left-eq0.true)).1 in
    stops_below z c.loop-k.k c.loop-k-test.true eight c.loop-k.invariant.beside m is c.put.ensures c.next_top-next.ensures (sym leaf ∙ c.next_high-lower.ensures) some g near (c.holds_at.ensures c.args.t.now.x c.args.t.now.y) c.if-holds_at.true c.take_step.ensures.stepped c.if-not-take_step.false c.take_groups-then-left-eq0.ensures c.if-take_groups.true

pub descend-requires : goal.descend-requires
descend-requires t c =
    let v = ap (λ (r : Tree). r.shape) c.tree.view_is in
    let z = round c.args.w.now c.args.top c.args.high c.args.c.now c.requires.passes c.requires.few c.requires.opened v c.open_at-o.ensures in
    let m = ap (λ (s : Shape). get_or s.entries (c.open_at-o.result.first + c.loop-k.k) 0) (c.shape.view_is ∙ v) in
    let eight : Eight c.args.c.now.numbers (sides_of c.args.c.now) = record { number = omega arith; x_lo = omega arith; x_hi = omega arith; y_lo = omega arith; y_hi = omega arith } in
    let some : 0 < next_high c.args.w.now.m c.args.top c.args.high = omega (arith, c.if-lower-eq0.false, c.next_high-lower.ensures) in
    let is = (c.box_of-b.ensures c.args.t.now.kit) ∙ ap₂ (λ (s : Sides) (j : ℕ). box_of c.args.t.now s (thing c.open_at-o.result.leaf j)) (ap (λ (r : Tree). r.sides) c.tree.view_is) (c.from.ensures ∙ m) in
    let g = subst (λ (q : Best). Going c.args.t.now c.args.tree.now (wanted c.args.w.now) c.args.w.now.allowance c.args.w.now.m (candidate c.args.w.now.m c.args.top c.args.high c.args.c.now) c.open_at-o.result (stand c.args.p.now.steps false c.args.p.now.best) c.loop-k.p.steps q c.loop-k.k) (sym c.take_step.ensures.kept) c.loop-k.invariant.going in
    let near = near_next z c.loop-k.k c.loop-k-test.true eight c.loop-k.invariant.eight c.loop-k.invariant.beside is c.take_step.new.self.best c.is_near.ensures c.if-is_near.true in
    let i = top_in c.requires.passes c.args.w.now c.requires.few c.args.top c.args.high c.args.c.now c.requires.opened in
    let h = top_high c.requires.passes c.args.w.now c.requires.few c.args.top c.args.high c.args.c.now c.requires.opened in
    let now : c.args.high * 8 + 8 - c.args.top ≡ t = c.decreases in
    let less : c.next_high-lower.result * 8 + 8 - c.next_top-next.result < t = omega (arith, now, falls c.args.w.now.m c.args.top c.args.high c.requires.few.most i h, c.next_top-next.ensures, c.next_high-lower.ensures) in
    (less, (c.requires.passes, (c.requires.few, opens_below z c.loop-k.k c.loop-k-test.true eight c.loop-k.invariant.beside m is c.put.ensures c.next_top-next.ensures c.next_high-lower.ensures some g near)))

pub returns-then-descend : goal.returns-then-descend
returns-then-descend t c =
    let v = ap (λ (r : Tree). r.shape) c.tree.view_is in
    let z = round c.args.w.now c.args.top c.args.high c.args.c.now c.requires.passes c.requires.few c.requires.opened v c.open_at-o.ensures in
    let m = ap (λ (s : Shape). get_or s.entries (c.open_at-o.result.first + c.loop-k.k) 0) (c.shape.view_is ∙ v) in
    let eight : Eight c.args.c.now.numbers (sides_of c.args.c.now) = record { number = omega arith; x_lo = omega arith; x_hi = omega arith; y_lo = omega arith; y_hi = omega arith } in
    let some : 0 < next_high c.args.w.now.m c.args.top c.args.high = omega (arith, c.if-lower-eq0.false, c.next_high-lower.ensures) in
    let is = (c.box_of-b.ensures c.args.t.now.kit) ∙ ap₂ (λ (s : Sides) (j : ℕ). box_of c.args.t.now s (thing c.open_at-o.result.leaf j)) (ap (λ (r : Tree). r.sides) c.tree.view_is) (c.from.ensures ∙ m) in
    let g = subst (λ (q : Best). Going c.args.t.now c.args.tree.now (wanted c.args.w.now) c.args.w.now.allowance c.args.w.now.m (candidate c.args.w.now.m c.args.top c.args.high c.args.c.now) c.open_at-o.result (stand c.args.p.now.steps false c.args.p.now.best) c.loop-k.p.steps q c.loop-k.k) (sym c.take_step.ensures.kept) c.loop-k.invariant.going in
    let near = near_next z c.loop-k.k c.loop-k-test.true eight c.loop-k.invariant.eight c.loop-k.invariant.beside is c.take_step.new.self.best c.is_near.ensures c.if-is_near.true in
    stops_below z c.loop-k.k c.loop-k-test.true eight c.loop-k.invariant.beside m is c.put.ensures c.next_top-next.ensures c.next_high-lower.ensures some g near (c.holds_at.ensures c.args.t.now.x c.args.t.now.y) c.if-holds_at.true c.take_step.ensures.stepped c.if-not-take_step.false c.descend.ensures c.if-descend.true

-- ---- one entry on

pub loop-k-preserved : goal.loop-k-preserved
loop-k-preserved t c =
    let v = ap (λ (r : Tree). r.shape) c.tree.view_is in
    let z = round c.args.w.now c.args.top c.args.high c.args.c.now c.requires.passes c.requires.few c.requires.opened v c.open_at-o.ensures in
    let m = ap (λ (s : Shape). get_or s.entries (c.open_at-o.result.first + c.loop-k.k) 0) (c.shape.view_is ∙ v) in
    let eight : Eight c.args.c.now.numbers (sides_of c.args.c.now) = record { number = omega arith; x_lo = omega arith; x_hi = omega arith; y_lo = omega arith; y_hi = omega arith } in
    let some : 0 < next_high c.args.w.now.m c.args.top c.args.high = omega (arith, c.if-lower-eq0.false, c.next_high-lower.ensures) in
    elim c.if-holds_at.branch [
      | then-holds_at+else-not-take_step+then-is_near+then-left-eq0+else-take_groups w ↦ (
          let is = (w.box_of-b.ensures c.args.t.now.kit) ∙ ap₂ (λ (s : Sides) (j : ℕ). box_of c.args.t.now s (thing c.open_at-o.result.leaf j)) (ap (λ (r : Tree). r.sides) c.tree.view_is) (w.from.ensures ∙ m) in
          let g = subst (λ (q : Best). Going c.args.t.now c.args.tree.now (wanted c.args.w.now) c.args.w.now.allowance c.args.w.now.m (candidate c.args.w.now.m c.args.top c.args.high c.args.c.now) c.open_at-o.result (stand c.args.p.now.steps false c.args.p.now.best) c.loop-k.p.steps q c.loop-k.k) (sym w.take_step.ensures.kept) c.loop-k.invariant.going in
          let near = near_next z c.loop-k.k c.loop-k-test.true eight c.loop-k.invariant.eight c.loop-k.invariant.beside is w.take_step.new.self.best w.is_near.ensures w.if-is_near.true in
          let next : c.next_top-next.result < c.args.w.now.m = omega (arith, c.next_top-next.ensures, next_in c.args.w.now.m c.args.top (top_in c.requires.passes c.args.w.now c.requires.few c.args.top c.args.high c.args.c.now c.requires.opened)) in
          let leaf = (high_last c.args.w.now.m c.next_top-next.result c.next_high-lower.result next (omega (arith, c.if-lower-eq0.false)) (sym c.next_high-left.ensures ∙ w.if-left-eq0.true)).1 in
          record {
            going = rw w.p-is (goes_below z c.loop-k.k c.loop-k-test.true eight c.loop-k.invariant.beside m is w.put.ensures c.next_top-next.ensures (sym leaf ∙ c.next_high-lower.ensures) some g near (c.holds_at.ensures c.args.t.now.x c.args.t.now.y) w.if-holds_at.true w.take_step.ensures.stepped w.if-not-take_step.false w.take_groups-then-left-eq0.ensures w.if-take_groups.false);
            beside = rw (w.below-is, w.put.ensures) (beside_put c.args.top c.loop-k.invariant.beside _ _);
            eight = rw (w.below-is, w.put.ensures) (eight_put _ _ c.loop-k.invariant.eight c.args.top _ _);
            ranged = rw w.below-is (came_ranged z c.loop-k.k c.loop-k-test.true eight c.loop-k.invariant.beside m is w.put.ensures c.next_top-next.ensures (sym leaf ∙ c.next_high-lower.ensures));
          })
      | then-holds_at+else-not-take_step+then-is_near+else-left-eq0+else-descend w ↦ (
          let is = (w.box_of-b.ensures c.args.t.now.kit) ∙ ap₂ (λ (s : Sides) (j : ℕ). box_of c.args.t.now s (thing c.open_at-o.result.leaf j)) (ap (λ (r : Tree). r.sides) c.tree.view_is) (w.from.ensures ∙ m) in
          let g = subst (λ (q : Best). Going c.args.t.now c.args.tree.now (wanted c.args.w.now) c.args.w.now.allowance c.args.w.now.m (candidate c.args.w.now.m c.args.top c.args.high c.args.c.now) c.open_at-o.result (stand c.args.p.now.steps false c.args.p.now.best) c.loop-k.p.steps q c.loop-k.k) (sym w.take_step.ensures.kept) c.loop-k.invariant.going in
          let near = near_next z c.loop-k.k c.loop-k-test.true eight c.loop-k.invariant.eight c.loop-k.invariant.beside is w.take_step.new.self.best w.is_near.ensures w.if-is_near.true in
          record {
            going = rw w.p-is (goes_below z c.loop-k.k c.loop-k-test.true eight c.loop-k.invariant.beside m is w.put.ensures c.next_top-next.ensures c.next_high-lower.ensures some g near (c.holds_at.ensures c.args.t.now.x c.args.t.now.y) w.if-holds_at.true w.take_step.ensures.stepped w.if-not-take_step.false w.descend.ensures w.if-descend.false);
            beside = rw (w.below-is, w.put.ensures) (beside_put c.args.top c.loop-k.invariant.beside _ _);
            eight = rw (w.below-is, w.put.ensures) (eight_put _ _ c.loop-k.invariant.eight c.args.top _ _);
            ranged = rw w.below-is (came_ranged z c.loop-k.k c.loop-k-test.true eight c.loop-k.invariant.beside m is w.put.ensures c.next_top-next.ensures c.next_high-lower.ensures);
          })
      | then-holds_at+else-not-take_step+else-is_near w ↦ (
          let is = (w.box_of-b.ensures c.args.t.now.kit) ∙ ap₂ (λ (s : Sides) (j : ℕ). box_of c.args.t.now s (thing c.open_at-o.result.leaf j)) (ap (λ (r : Tree). r.sides) c.tree.view_is) (w.from.ensures ∙ m) in
          let g = subst (λ (q : Best). Going c.args.t.now c.args.tree.now (wanted c.args.w.now) c.args.w.now.allowance c.args.w.now.m (candidate c.args.w.now.m c.args.top c.args.high c.args.c.now) c.open_at-o.result (stand c.args.p.now.steps false c.args.p.now.best) c.loop-k.p.steps q c.loop-k.k) (sym w.take_step.ensures.kept) c.loop-k.invariant.going in
          let far = beyond z c.loop-k.k c.loop-k-test.true eight c.loop-k.invariant.eight c.loop-k.invariant.beside is w.take_step.new.self.best w.is_near.ensures w.if-is_near.false in
          record {
            going = rw w.p-is (dropped z c.loop-k.k c.loop-k-test.true g (c.holds_at.ensures c.args.t.now.x c.args.t.now.y) w.if-holds_at.true w.take_step.ensures.stepped w.if-not-take_step.false far.0 far.1);
            beside = rw w.below-is c.loop-k.invariant.beside;
            eight = rw w.below-is c.loop-k.invariant.eight;
            ranged = rw w.below-is c.loop-k.invariant.ranged;
          })
      | else-holds_at w ↦ record {
        going = rw w.p-is (skipped z c.loop-k.k c.loop-k-test.true c.loop-k.invariant.going (c.holds_at.ensures c.args.t.now.x c.args.t.now.y) w.if-holds_at.false);
        beside = rw w.below-is c.loop-k.invariant.beside;
        eight = rw w.below-is c.loop-k.invariant.eight;
        ranged = rw w.below-is c.loop-k.invariant.ranged;
      }
    ]

pub returns : goal.returns
returns t c =
    done (round c.args.w.now c.args.top c.args.high c.args.c.now c.requires.passes c.requires.few c.requires.opened (ap (λ (r : Tree). r.shape) c.tree.view_is) c.open_at-o.ensures) c.loop-k.invariant.going c.loop-k-test.false

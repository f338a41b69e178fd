use Rattle.std.proofs.Common.{◌≡◌, ℕ, ◌≤◌, ◌<◌, eqb, get_or, true, false, sym, subst, ◌∙◌, ap, arith}
use mathlib.Core.Bool.{false≢true}
use Rattle.tree.specs.Tree.{Shape, level_of}
use Rattle.tree.specs.Lent.{mark_of}
use Rattle.tree.proofs.OwnerLaws.{runs_of}
use Rattle.marks.proofs.MarkLaws.{marked_first, marked_more, here_below, seen_before, all_marked}
use Rattle.marks.proofs.marked_once.Goals as goal

-- the mark of what stands at i, as the code reads it from the columns s of the shape t
mark_is : (s t : Shape) (n i : ℕ) {k e : ℕ} → s ≡ t → k ≡ mark_of (eqb (level_of s n) 1) e → e ≡ get_or s.entries i 0 → k ≡ mark_of (eqb (level_of t n) 1) (get_or t.entries i 0)
mark_is s t n i v p q = p ∙ ap (mark_of (eqb (level_of s n) 1)) q ∙ ap (λ (u : Shape). mark_of (eqb (level_of u n) 1) (get_or u.entries i 0)) v

pub loop-i-init : goal.loop-i-init
loop-i-init c = rw c.requires.seen_value (marked_first (runs_of c.requires.all_hold) c.requires.columns.few c.requires.holds)

pub bounds-seen-k : goal.bounds-seen-k
bounds-seen-k c =
    let listed : c.loop-i.i < c.args.s.now.listed = omega (arith, c.loop-i-test.true, ap (λ (s : Shape). s.listed) c.s.view_is) in
    rw (mark_is _ _ c.loop-i.n c.loop-i.i c.s.view_is c.mark_of-k.ensures c.from.ensures)
    (here_below (runs_of c.requires.all_hold) c.requires.columns.few c.requires.holds c.loop-i.i c.loop-i.n c.loop-i.seen c.loop-i.invariant listed)

pub returns-then-seen-k : goal.returns-then-seen-k
returns-then-seen-k c =
    let listed : c.loop-i.i < c.args.s.now.listed = omega (arith, c.loop-i-test.true, ap (λ (s : Shape). s.listed) c.s.view_is) in
    seen_before (runs_of c.requires.all_hold) c.requires.columns.few c.requires.holds c.loop-i.i c.loop-i.n c.loop-i.seen c.loop-i.invariant listed
    (subst (λ (k : ℕ). get_or c.loop-i.seen k false ≡ true) (mark_is _ _ c.loop-i.n c.loop-i.i c.s.view_is c.mark_of-k.ensures c.from.ensures) c.if-seen-k.true)

pub bounds-seen-k-in-loop-i : goal.bounds-seen-k-in-loop-i
bounds-seen-k-in-loop-i c =
    let listed : c.loop-i.i < c.args.s.now.listed = omega (arith, c.loop-i-test.true, ap (λ (s : Shape). s.listed) c.s.view_is) in
    rw (mark_is _ _ c.loop-i.n c.loop-i.i c.s.view_is c.mark_of-k.ensures c.from.ensures)
    (here_below (runs_of c.requires.all_hold) c.requires.columns.few c.requires.holds c.loop-i.i c.loop-i.n c.loop-i.seen c.loop-i.invariant listed)

pub loop-i-preserved : goal.loop-i-preserved
loop-i-preserved c =
    let listed : c.loop-i.i < c.args.s.now.listed = omega (arith, c.loop-i-test.true, ap (λ (s : Shape). s.listed) c.s.view_is) in
    let mark = mark_is _ _ c.loop-i.n c.loop-i.i c.s.view_is c.mark_of-k.ensures c.from.ensures in
    rw (c.moved-n.ensures, mark)
    (marked_more (runs_of c.requires.all_hold) c.requires.columns.few c.requires.holds c.loop-i.i c.loop-i.n c.loop-i.seen c.loop-i.invariant listed
    (λ e. false≢true (sym c.if-seen-k.false ∙ subst (λ (k : ℕ). get_or c.loop-i.seen k false ≡ true) (sym mark) e)))

pub returns : goal.returns
returns c =
    let done : c.args.s.now.listed ≤ c.loop-i.i = omega (arith, c.loop-i-test.false, ap (λ (s : Shape). s.listed) c.s.view_is) in
    all_marked (runs_of c.requires.all_hold) c.requires.columns.few c.requires.holds c.loop-i.i c.loop-i.n c.loop-i.seen c.loop-i.invariant done

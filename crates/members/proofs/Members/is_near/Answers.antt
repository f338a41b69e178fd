use Rattle.std.proofs.Common.{◌∙◌, sym, arith}
use Rattle.members.specs.Columns.{sides_of}
use Rattle.members.proofs.BoxesLaws.{turn, turn_ranged, others_done, beyond_more, beyond_here, beyond_none}
use Rattle.members.proofs.Members.is_near.Goals as goal

pub apart_of-requires : goal.apart_of-requires
apart_of-requires c =
    let r = c.requires in
    (r.all_ranged.1, turn_ranged c.args.m (sides_of c.args.self.now) r.m_bound.0 c.args.i c.loop-k.k c.loop-k-test.true c.skipping.ensures c.box_at-c.ensures r.all_ranged.0)

pub returns-then-squared-apart_of : goal.returns-then-squared-apart_of
returns-then-squared-apart_of c =
    let r = c.requires in
    let next = turn c.args.m (sides_of c.args.self.now) r.m_bound.0 c.args.i c.loop-k.k c.loop-k-test.true c.skipping.ensures c.box_at-c.ensures r.m_bound.1 in
    let e = sym c.loop-k.invariant ∙ beyond_here c.args.b _ _ next (omega (arith, c.apart_of.ensures, c.if-squared-apart_of.true)) in
    rw (c.if-not-best.false, e)

pub loop-k-preserved : goal.loop-k-preserved
loop-k-preserved c =
    let r = c.requires in
    let next = turn c.args.m (sides_of c.args.self.now) r.m_bound.0 c.args.i c.loop-k.k c.loop-k-test.true c.skipping.ensures c.box_at-c.ensures r.m_bound.1 in
    beyond_more c.args.b _ _ next (omega (arith, c.apart_of.ensures, c.if-squared-apart_of.false)) ∙ c.loop-k.invariant

pub returns : goal.returns
returns c =
    let r = c.requires in
    let done = others_done c.args.m (sides_of c.args.self.now) r.m_bound.0 c.args.i c.loop-k.k r.m_bound.1 (omega (arith, c.loop-k-test.false)) in
    let e = sym c.loop-k.invariant ∙ beyond_none c.args.b _ done in
    rw (c.if-not-best.false, e)

use Rattle.std.proofs.Common.{◌∙◌, sym, arith}
use Rattle.members.specs.Columns.{sides_of}
use Rattle.members.proofs.BoxesLaws.{turn, turn_ranged, others_done, spread_more, spread_done}
use Rattle.members.proofs.Members.spread_of.Goals as goal

pub farthest_of-most-requires-clause-all_ranged : goal.farthest_of-most-requires-clause-all_ranged
farthest_of-most-requires-clause-all_ranged c =
    let r = c.requires in
    (r.all_ranged, turn_ranged c.args.m (sides_of c.args.self.now) r.m_bound.0 c.args.i c.loop-k.k c.loop-k-test.true c.skipping.ensures c.box_at-b.ensures r.all_ranged)

pub loop-k-preserved : goal.loop-k-preserved
loop-k-preserved c =
    let r = c.requires in
    let next = turn c.args.m (sides_of c.args.self.now) r.m_bound.0 c.args.i c.loop-k.k c.loop-k-test.true c.skipping.ensures c.box_at-b.ensures r.m_bound.1 in
    rw c.farthest_of-most.ensures (spread_more _ c.loop-k.most next ∙ c.loop-k.invariant)

pub returns : goal.returns
returns c =
    let r = c.requires in
    sym (spread_done c.loop-k.most (others_done c.args.m (sides_of c.args.self.now) r.m_bound.0 c.args.i c.loop-k.k r.m_bound.1 (omega (arith, c.loop-k-test.false)))) ∙ c.loop-k.invariant

use Rattle.std.proofs.Common.{◌∙◌, sym, arith}
use Rattle.members.specs.Columns.{sides_of}
use Rattle.members.proofs.BoxesLaws.{turn, turn_ranged, others_done, farthest_more, farthest_done}
use Rattle.members.proofs.Members.farthest_of.Goals as goal

pub apart_of-requires : goal.apart_of-requires
apart_of-requires c =
    let r = c.requires in
    (r.all_ranged.1, turn_ranged c.args.m (sides_of c.args.self.now) r.m_bound.0 c.args.i c.loop-k.k c.loop-k-test.true c.skipping.ensures c.box_at-c.ensures r.all_ranged.0)

pub loop-k-preserved : goal.loop-k-preserved
loop-k-preserved c =
    let r = c.requires in
    let next = turn c.args.m (sides_of c.args.self.now) r.m_bound.0 c.args.i c.loop-k.k c.loop-k-test.true c.skipping.ensures c.box_at-c.ensures r.m_bound.1.0 in
    rw (c.max-most.ensures, c.apart_of.ensures) (farthest_more c.args.b _ c.loop-k.most next ∙ c.loop-k.invariant)

pub returns : goal.returns
returns c =
    let r = c.requires in
    sym (farthest_done c.args.b c.loop-k.most (others_done c.args.m (sides_of c.args.self.now) r.m_bound.0 c.args.i c.loop-k.k r.m_bound.1.0 (omega (arith, c.loop-k-test.false)))) ∙ c.loop-k.invariant

use Rattle.std.proofs.Common.{◌∙◌, sym, arith}
use Rattle.members.specs.Columns.{sides_of}
use Rattle.members.proofs.BoxesLaws.{turn, turn_ranged, others_done, farthest_more, farthest_done}
use Rattle.members.proofs.Members.row_of.Goals as goal

pub apart_of-requires : goal.apart_of-requires
apart_of-requires c =
    let r = c.requires in
    (r.all_ranged.1, turn_ranged c.args.m (sides_of c.args.self.now) r.m_bound.0 c.args.i c.loop-k.k c.loop-k-test.true c.skipping.ensures c.box_at-c.ensures r.all_ranged.0)

pub returns-then-limit-most : goal.returns-then-limit-most
returns-then-limit-most c =
    let r = c.requires in
    let next = turn c.args.m (sides_of c.args.self.now) r.m_bound.0 c.args.i c.loop-k.k c.loop-k-test.true c.skipping.ensures c.box_at-c.ensures r.m_bound.1 in
    let more = farthest_more c.args.b _ c.loop-k.most next ∙ c.loop-k.invariant.makes in
    record { near = λ h. absurd (omega (arith, c.if-limit-most.true)); far = λ h. omega (arith, more, c.max-most.ensures, c.apart_of.ensures) }

pub loop-k-preserved : goal.loop-k-preserved
loop-k-preserved c =
    let r = c.requires in
    let next = turn c.args.m (sides_of c.args.self.now) r.m_bound.0 c.args.i c.loop-k.k c.loop-k-test.true c.skipping.ensures c.box_at-c.ensures r.m_bound.1 in
    record {
      within = omega arith;
      makes = rw (c.max-most.ensures, c.apart_of.ensures) (farthest_more c.args.b _ c.loop-k.most next ∙ c.loop-k.invariant.makes);
    }

pub returns : goal.returns
returns c =
    let r = c.requires in
    let done = others_done c.args.m (sides_of c.args.self.now) r.m_bound.0 c.args.i c.loop-k.k r.m_bound.1 (omega (arith, c.loop-k-test.false)) in
    record { near = λ h. sym (farthest_done c.args.b c.loop-k.most done) ∙ c.loop-k.invariant.makes; far = λ h. absurd (omega (arith, c.loop-k.invariant.within)) }

use Rattle.std.proofs.Common.{arith}
use Rattle.members.proofs.PlaceLaws.{made}
use Rattle.members.proofs.Members.group_with.Goals as goal

pub returns : goal.returns
returns c =
    let v = c.loop-j.invariant in
    made c.args.m c.args.self.now.numbers c.args.i c.args.p (omega arith) c.requires.0 c.requires.1 c.loop-j.places v.eight (λ k h. v.stored k (omega arith)) (λ k h l. v.rest k (omega arith) l)

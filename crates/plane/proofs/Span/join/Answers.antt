use mathlib.Core.Path.{ap₂}
use borrow.Author.Rules.{rules}
use mir.Syntax.{w32}
use mir.Val.{SFits}
use mir.Facts.{to_z-of_z}
use Rattle.plane.specs.Plane.{span, least}
use Rattle.plane.proofs.WholeLaws.{max_is}
use Rattle.plane.proofs.Span.join.Goals as goal

pub returns : goal.returns
unfolding least
returns c =
    let s = c.args.self in
    let t = c.args.t in
    let f : SFits w32 s.lo = search rules in
    let g : SFits w32 s.hi = search rules in
    let h : SFits w32 t.lo = search rules in
    let k : SFits w32 t.hi = search rules in
    let p : SFits w32 c.min.result = search rules in
    let q : SFits w32 c.max.result = search rules in
    rw (to_z-of_z p, to_z-of_z q)
    (ap₂ span (rw (to_z-of_z f, to_z-of_z h) at c.min.ensures.value)
    (rw (to_z-of_z g, to_z-of_z k, max_is s.hi t.hi) at c.max.ensures.value))

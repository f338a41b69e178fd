use Rattle.std.proofs.Common.{◌≡◌, ◌-◌, ◌*◌, min, arith}
use Rattle.levels.proofs.LevelLaws.{climb_first, climb_more, climb_room, climb_spot, climb_small, climb_share}
use Rattle.fill.proofs.spot_of.Goals as goal

pub loop-end-init : goal.loop-end-init
loop-end-init c = rw c.requires.1.0 (climb_first c.args.n c.requires.0 c.args.m (omega arith))

pub overflow_sub-end : goal.overflow_sub-end
overflow_sub-end c = climb_room _ c.requires.0 c.loop-end.invariant

pub overflow_add-size-in-loop-end : goal.overflow_add-size-in-loop-end
overflow_add-size-in-loop-end c = omega (arith, climb_small _ c.requires.0 c.loop-end.invariant)

pub overflow_add-level : goal.overflow_add-level
overflow_add-level c = omega (arith, climb_small _ c.requires.0 c.loop-end.invariant)

pub loop-end-smaller : goal.loop-end-smaller
loop-end-smaller c =
    let more = climb_more _ c.requires.0 c.loop-end.invariant c.loop-end-test.true in
    omega (arith, more.high, more.level_is)

pub loop-end-preserved : goal.loop-end-preserved
loop-end-preserved c = climb_more _ c.requires.0 c.loop-end.invariant c.loop-end-test.true

pub overflow_sub-rank : goal.overflow_sub-rank
overflow_sub-rank c = climb_room _ c.requires.0 c.loop-end.invariant

pub overflow_mul-rank : goal.overflow_mul-rank
overflow_mul-rank c = omega (arith, climb_small _ c.requires.0 c.loop-end.invariant)

pub overflow_sub-below : goal.overflow_sub-below
overflow_sub-below c = climb_share _ c.requires.0 c.loop-end.invariant (λ h. omega arith)

pub overflow_mul-result : goal.overflow_mul-result
overflow_mul-result c = omega (arith, climb_small _ c.requires.0 c.loop-end.invariant)

pub overflow_add-result : goal.overflow_add-result
overflow_add-result c = omega (arith, climb_small _ c.requires.0 c.loop-end.invariant)

pub overflow_cast-result : goal.overflow_cast-result
overflow_cast-result c = omega (arith, climb_small _ c.requires.0 c.loop-end.invariant)

pub returns : goal.returns
returns c =
    let l = c.loop-end in
    let e : c.min-count.result ≡ min 16 (l.below - 16 * (c.args.m - (l.end - l.size))) = omega (arith, c.min-count.ensures) in
    rw e (climb_spot _ c.requires.0 l.invariant (λ h. omega arith))

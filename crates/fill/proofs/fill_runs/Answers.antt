use Rattle.std.proofs.Common.{arith, refl, ap}
use Rattle.levels.specs.declared.Spot.{Spot}
use Rattle.fill.proofs.FillLaws.{fill_up, fill_done}
use Rattle.fill.proofs.fill_runs.Goals as goal

pub loop-m-preserved : goal.loop-m-preserved
loop-m-preserved c =
    let p = c.requires.nodes_in_bounds in
    let h = c.loop-m.invariant in
    let e = c.spot_of-s.ensures in
    record {
      levels = fill_up h.levels _ (omega (arith, p.0)) (ap (λ (z : Spot). z.level) e);
      starts = fill_up h.starts _ (omega (arith, p.1.0)) (ap (λ (z : Spot). z.start) e);
      counts = fill_up h.counts _ (omega (arith, p.1.1)) (ap (λ (z : Spot). z.count) e);
    }

pub returns-clause-level_after : goal.returns-clause-level_after
returns-clause-level_after c = fill_done c.loop-m.invariant.levels refl (omega arith)

pub returns-clause-start_after : goal.returns-clause-start_after
returns-clause-start_after c = fill_done c.loop-m.invariant.starts refl (omega arith)

pub returns-clause-count_after : goal.returns-clause-count_after
returns-clause-count_after c = fill_done c.loop-m.invariant.counts refl (omega arith)

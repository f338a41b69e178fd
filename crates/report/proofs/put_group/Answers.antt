-- Each kind that is held stands with the next place, as far as there are both.
-- Assumes nothing.
use Rattle.std.proofs.Common.{sym, refl, length, arith, rules}
use Rattle.std.specs.List.{zip}
use Rattle.std.proofs.iter.Serving.{serving}
use Rattle.std.proofs.lemmas.Iterator.{YieldsList-from_slice, YieldsList-from_zip, YieldsList-from_range}
use Rattle.std.proofs.lemmas.Iterator.Consumers.{YieldsList-at, YieldsList-from_filter, YieldsList-turn, YieldsList-end}
use Rattle.std.proofs.lemmas.List.{length_push}
use Rattle.kit.specs.Kit.{held, kinds}
use Rattle.print.proofs.LeftLaws.{left_all, left_is, left_none, left_room, left_more}
use Rattle.report.specs.Answer.{need_lines}
use Rattle.report.proofs.GroupLaws.{as_pairs, kinds_filtered, yields_as, next_pair, no_pair}
use Rattle.report.proofs.put_group.Goals as goal

pub loop-kind-init : goal.loop-kind-init
loop-kind-init c = (grind serving, grind serving, left_is (as_pairs (kinds c.args.want) c.args.places.now) (left_all _ c.requires))

pub put_need-requires : goal.put_need-requires
put_need-requires c =
    let w = c.args.want in
    let turn = YieldsList-turn {v = λ p. (p.0, p.1.now)} (YieldsList-at c.into_iter-kind-iterator.ensures.into_iter_gives (YieldsList-from_zip {s = c.zip-kind-items.result} (YieldsList-at c.zip-kind-items.ensures.first (yields_as (sym (kinds_filtered w)) (YieldsList-from_filter _ (held w) (YieldsList-from_range 0 64 64 c.filter.ensures.source refl) c.filter.ensures.closure (λ x b q k. search rules)))) (YieldsList-from_slice c.args.places.now cc))) c.loop-kind.yielded c.loop-kind.kind-iterator c.loop-kind.yielded_by c.next.result c.next.new.self (c.in-Some.kind, c.in-Some.place) c.in-Some.is c.next.ensures.steps in
    let lines = next_pair _ _ c.in-Some.kind c.in-Some.place.now turn.0 turn.1 in
    rw c.from.ensures (left_room (need_lines c.in-Some.kind c.in-Some.place.now) _ (left_is lines c.loop-kind.invariant.2))

pub loop-kind-preserved : goal.loop-kind-preserved
loop-kind-preserved c = (
  grind serving,
  grind serving,
  let w = c.args.want in
      let turn = YieldsList-turn {v = λ p. (p.0, p.1.now)} (YieldsList-at c.into_iter-kind-iterator.ensures.into_iter_gives (YieldsList-from_zip {s = c.zip-kind-items.result} (YieldsList-at c.zip-kind-items.ensures.first (yields_as (sym (kinds_filtered w)) (YieldsList-from_filter _ (held w) (YieldsList-from_range 0 64 64 c.filter.ensures.source refl) c.filter.ensures.closure (λ x b q k. search rules)))) (YieldsList-from_slice c.args.places.now cc))) c.loop-kind.yielded c.loop-kind.kind-iterator c.loop-kind.yielded_by c.next.result c.next.new.self (c.in-Some.kind, c.in-Some.place) c.in-Some.is c.next.ensures.steps in
      let lines = next_pair _ _ c.in-Some.kind c.in-Some.place.now turn.0 turn.1 in
      let need = rw c.from.ensures at c.put_need.ensures in
      rw length_push (left_more (need_lines c.in-Some.kind c.in-Some.place.now) _ (left_is lines c.loop-kind.invariant.2) need),
)

pub returns : goal.returns
returns c =
    let w = c.args.want in
    let all = YieldsList-end {v = λ p. (p.0, p.1.now)} (YieldsList-at c.into_iter-kind-iterator.ensures.into_iter_gives (YieldsList-from_zip {s = c.zip-kind-items.result} (YieldsList-at c.zip-kind-items.ensures.first (yields_as (sym (kinds_filtered w)) (YieldsList-from_filter _ (held w) (YieldsList-from_range 0 64 64 c.filter.ensures.source refl) c.filter.ensures.closure (λ x b q k. search rules)))) (YieldsList-from_slice c.args.places.now cc))) c.loop-kind.yielded c.loop-kind.kind-iterator c.loop-kind.yielded_by c.next.result c.next.new.self c.in-None.is c.next.ensures.steps in
    left_none (left_is (no_pair (zip (kinds w) c.args.places.now) (length c.loop-kind.yielded) (omega (arith, all.1))) c.loop-kind.invariant.2)

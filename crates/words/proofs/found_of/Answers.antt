-- Each word is there, and fits its field.
-- Assumes nothing.
use Rattle.std.proofs.Common.{◌≡◌, get_or, length, arith, rules}
use Rattle.std.proofs.iter.Serving.{serving}
use Rattle.words.specs.Lines.{limits}
use Rattle.words.proofs.WordLaws.{eight}
use Rattle.words.proofs.FitLaws.{fit_at, place_at}
use Rattle.words.proofs.found_of.Goals as goal

pub from_fn-places-requires : goal.from_fn-places-requires
from_fn-places-requires c =
    let h = place_at c.args.w.now c.requires in grind (arith, serving, h)

pub bounds-w-0 : goal.bounds-w-0
bounds-w-0 c = (fit_at limits c.args.w.now c.requires 0 (omega arith)).0

pub overflow_cast-result : goal.overflow_cast-result
overflow_cast-result c = omega (arith, fit_at limits c.args.w.now c.requires 0 (omega arith))

pub bounds-w-1 : goal.bounds-w-1
bounds-w-1 c = (fit_at limits c.args.w.now c.requires 1 (omega arith)).0

pub bounds-w-10 : goal.bounds-w-10
bounds-w-10 c = (fit_at limits c.args.w.now c.requires 10 (omega arith)).0

pub bounds-w-11 : goal.bounds-w-11
bounds-w-11 c = (fit_at limits c.args.w.now c.requires 11 (omega arith)).0

pub overflow_cast-result-2 : goal.overflow_cast-result-2
overflow_cast-result-2 c = omega (arith, fit_at limits c.args.w.now c.requires 11 (omega arith))

pub bounds-w-12 : goal.bounds-w-12
bounds-w-12 c = (fit_at limits c.args.w.now c.requires 12 (omega arith)).0

pub returns : goal.returns
returns c =
    let w = c.args.w.now in
    let l = c.from_fn-places.result in
    let long : length l ≡ 8 = c.from_fn-places.ensures.items.long in
    let e0 : get_or l 0 0 ≡ get_or w 2 0 = search rules in
    let e1 : get_or l 1 0 ≡ get_or w 3 0 = search rules in
    let e2 : get_or l 2 0 ≡ get_or w 4 0 = search rules in
    let e3 : get_or l 3 0 ≡ get_or w 5 0 = search rules in
    let e4 : get_or l 4 0 ≡ get_or w 6 0 = search rules in
    let e5 : get_or l 5 0 ≡ get_or w 7 0 = search rules in
    let e6 : get_or l 6 0 ≡ get_or w 8 0 = search rules in
    let e7 : get_or l 7 0 ≡ get_or w 9 0 = search rules in
    let places = rw (e0, e1, e2, e3, e4, e5, e6, e7) at (eight l long) in
    cc

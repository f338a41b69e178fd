use Rattle.std.proofs.Common.{[], drop, ap, arith}
use Rattle.rows.specs.Sheet.{place_part}
use Rattle.lines.specs.Part.{several}
use Rattle.readers.proofs.ReadLaws.{reads_refused}
use Rattle.parts.proofs.PlaceLaws.{place_lines}
use Rattle.scan.specs.Read.{passed}
use Rattle.scan.proofs.SeveralLaws.{passed_none, passed_more, passed_refused, passed_all}
use Rattle.scan.proofs.places_at.Goals as goal

pub loop-i-init : goal.loop-i-init
loop-i-init c = ([], passed_none place_part 4 place_lines _ _ _ 3 c.requires.0)

pub place_at-requires : goal.place_at-requires
place_at-requires c = (c.loop-i.invariant.1.inside, (omega (arith, c.requires), omega (arith, c.requires)))

pub returns-in_err-place : goal.returns-in_err-place
returns-in_err-place c =
    let a = c.args in
    let g = (several place_part a.places 0).read 3 (drop a.at a.src.now) in
    let e = passed_refused place_part 4 place_lines _ _ _ 3 _ _ _ c.loop-i.invariant.1 c.loop-i-test.true _ _ c.in_err-place.ensures in
    reads_refused (λ v. v) a.src.now (passed g) _ c.in_err-place.field-0.0 c.from_residual.ensures.1 (ap passed e)

pub loop-i-preserved : goal.loop-i-preserved
loop-i-preserved c =
    let w = c.in_ok-place.ensures in
    (_, passed_more place_part 4 place_lines _ _ _ 3 _ _ _ c.loop-i.invariant.1 c.loop-i-test.true _ _ w.0 w.1)

pub returns : goal.returns
returns c =
    let w = c.loop-i.invariant.1 in
    (w.inside, ap passed (passed_all place_part 4 place_lines _ _ _ 3 _ _ _ w c.loop-i-test.false))

use Rattle.std.proofs.Common.{[], drop, refl, ap, pos, arith}
use Rattle.lines.specs.Part.{several}
use Rattle.readers.proofs.ReadLaws.{reads_refused}
use Rattle.rows.specs.Sheet.{place_part, x_of, y_of, word_of}
use Rattle.parts.specs.Parts.{row}
use Rattle.parts.proofs.PlaceLaws.{place_lines, held_place}
use Rattle.scan.specs.Read.{passed}
use Rattle.scan.proofs.SeveralLaws.{passed_none, passed_more, passed_refused, passed_all}
use Rattle.scan.proofs.ColumnLaws.{column_none, column_more, column_stored, column_unsaid}
use Rattle.scan.proofs.fill.Goals as goal

pub loop-i-init : goal.loop-i-init
loop-i-init c =
    ([], (passed_none place_part 4 place_lines _ _ _ 3 c.requires.at_in_bounds.0, record { x = column_none x_of _; y = column_none y_of _; kit = column_none word_of _ }))

pub place_at-requires : goal.place_at-requires
place_at-requires c = (c.loop-i.invariant.1.0.inside, (omega (arith, c.requires), omega (arith, c.requires)))

pub returns-in_err-place : goal.returns-in_err-place
returns-in_err-place c =
    let a = c.args in
    let g = (several place_part a.places 0).read 3 (drop a.at a.src.now) in
    let e = passed_refused place_part 4 place_lines _ _ _ 3 _ _ _ c.loop-i.invariant.1.0 c.loop-i-test.true _ _ c.in_err-place.ensures in
    record {
      read = reads_refused (λ v. v) a.src.now (passed g) _ c.in_err-place.field-0.0 c.from_residual.ensures.1 (ap passed e);
      stored = (column_unsaid x_of g _ _ _ _ e, (column_unsaid y_of g _ _ _ _ e, column_unsaid word_of g _ _ _ _ e));
    }

pub loop-i-preserved : goal.loop-i-preserved
loop-i-preserved c =
    let l = c.loop-i.invariant.1 in
    let w = c.in_ok-place.ensures in
    let p = row c.in_ok-place.place.value in
    let n = l.0.count in
    let k = l.1 in
    let h = held_place _ _ _ p _ w.1 in (
      _,
      (
        passed_more place_part 4 place_lines _ _ _ 3 _ _ _ l.0 c.loop-i-test.true p _ w.0 w.1,
        record {
          x = column_more x_of _ _ _ _ n k.x p _ (pos 0) h.0 (omega (arith, c.requires));
          y = column_more y_of _ _ _ _ n k.y p _ (pos 0) h.1 (omega (arith, c.requires));
          kit = column_more word_of _ _ _ _ n k.kit p _ 0 refl (omega (arith, c.requires));
        },
      ),
    )

pub returns : goal.returns
returns c =
    let l = c.loop-i.invariant.1 in
    let n = l.0.count in
    let k = l.1 in
    let e = passed_all place_part 4 place_lines _ _ _ 3 _ _ _ l.0 c.loop-i-test.false in
    record {
      read = (l.0.inside, ap passed e);
      stored = (column_stored x_of _ _ _ _ _ _ e n k.x, (column_stored y_of _ _ _ _ _ _ e n k.y, column_stored word_of _ _ _ _ _ _ e n k.kit));
    }

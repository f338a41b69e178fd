use Rattle.std.proofs.Common.{◌≤◌, refl, arith}
use Rattle.rows.specs.Sheet.{x_of, y_of, word_of, read_sheet}
use Rattle.parts.proofs.HeadLaws.{head_few}
use Rattle.scan.proofs.ScanLaws.{scan_1, told_refused}
use Rattle.sheet.proofs.ReadingLaws.{taken, not_taken}
use Rattle.sheet.proofs.take_in.Goals as goal
use Rattle.sheet.proofs.take_in.Goals.{In_ok-head}

few : (c : In_ok-head) → c.in_ok-head.head.value ≤ 4096
few c = head_few _ _ _ _ c.in_ok-head.ensures.1

pub fill-p-requires : goal.fill-p-requires
fill-p-requires c =
    let q = c.requires in
    let f = few (goal.at.fill-p-requires c).In_ok-head in
    record { at_in_bounds = (c.in_ok-head.ensures.0, f); places_in_bounds = (omega (arith, f, q.0), (omega (arith, f, q.1.0), omega (arith, f, q.1.1))) }

pub ending-requires : goal.ending-requires
ending-requires c = (_, (c.in_ok-head.ensures.1, c.fill-p.ensures.read))

pub returns : goal.returns
returns c =
    let h = c.in_ok-head.ensures.1 in
    let w = c.fill-p.ensures in
    record {
      value = c.ending.ensures;
      columns_taken = (taken _ _ _ h x_of (λ t. t.x) (λ l. refl) _ _ w.stored.0, (taken _ _ _ h y_of (λ t. t.y) (λ l. refl) _ _ w.stored.1.0, taken _ _ _ h word_of (λ t. t.kit) (λ l. refl) _ _ w.stored.1.1));
    }

pub returns-in_err-head : goal.returns-in_err-head
returns-in_err-head c =
    let e = scan_1 _ _ _ c.in_err-head.ensures in
    record {
      value = told_refused _ c.in_err-head.field-0.0 (read_sheet c.args.src.now) c.from_residual.ensures.1 e;
      columns_taken = (not_taken _ _ _ e _ _ _, (not_taken _ _ _ e _ _ _, not_taken _ _ _ e _ _ _));
    }

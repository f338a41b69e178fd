use Rattle.rows.specs.Sheet.{read_sheet}
use Rattle.scan.proofs.ScanLaws.{scan_1, told_refused}
use Rattle.scan.proofs.scan.Goals as goal

pub returns-in_err-head : goal.returns-in_err-head
returns-in_err-head c =
    told_refused _ c.in_err-head.field-0.0 (read_sheet c.args.src.now) c.from_residual.ensures.1 (scan_1 _ _ _ c.in_err-head.ensures)

use Rattle.std.proofs.Common.{drop}
use Rattle.readers.proofs.ReadLaws.{reads_refused}
use Rattle.parts.specs.Parts.{head_part}
use Rattle.parts.proofs.HeadLaws.{head_1, head_2, head_all}
use Rattle.parts.proofs.head_at.Goals as goal

pub returns-in_err-sheet : goal.returns-in_err-sheet
returns-in_err-sheet c =
    let a = c.args in
    reads_refused (λ v. v) a.src.now (head_part.read 1 (drop a.at a.src.now)) _ c.in_err-sheet.field-0.0 c.from_residual.ensures.1 (head_1 _ _ _ c.in_err-sheet.ensures)

pub returns-in_err-places : goal.returns-in_err-places
returns-in_err-places c =
    let a = c.args in
    reads_refused (λ v. v) a.src.now (head_part.read 1 (drop a.at a.src.now)) _ c.in_err-places.field-0.0 c.from_residual-in_err-places.ensures.1
    (head_2 _ _ c.in_ok-sheet.ensures.1 _ _ c.in_err-places.ensures)

pub returns : goal.returns
returns c = let w = c.in_ok-places.ensures in (w.0, head_all _ _ c.in_ok-sheet.ensures.1 _ _ w.1)

use Rattle.std.proofs.Common.{drop}
use Rattle.readers.proofs.ReadLaws.{reads_refused}
use Rattle.rows.specs.Sheet.{query_part}
use Rattle.parts.specs.Parts.{pair}
use Rattle.parts.proofs.QueryLaws.{query_1, query_2, query_3, query_all}
use Rattle.parts.proofs.query_at.Goals as goal

pub returns-in_err-want : goal.returns-in_err-want
returns-in_err-want c =
    let a = c.args in
    reads_refused pair a.src.now (query_part.read a.line (drop a.at a.src.now)) _ c.in_err-want.field-0.0 c.from_residual.ensures.1 (query_1 _ _ _ _ c.in_err-want.ensures)

pub returns-in_err-budget : goal.returns-in_err-budget
returns-in_err-budget c =
    let a = c.args in
    reads_refused pair a.src.now (query_part.read a.line (drop a.at a.src.now)) _ c.in_err-budget.field-0.0 c.from_residual-in_err-budget.ensures.1
    (query_2 _ _ _ _ c.in_ok-want.ensures.1 _ _ c.in_err-budget.ensures)

pub returns-in_err-end : goal.returns-in_err-end
returns-in_err-end c =
    let a = c.args in
    reads_refused pair a.src.now (query_part.read a.line (drop a.at a.src.now)) _ c.in_err-end.field-0.0 c.from_residual-in_err-end.ensures.1
    (query_3 _ _ _ _ c.in_ok-want.ensures.1 _ _ c.in_ok-budget.ensures.1 _ _ c.in_err-end.ensures)

pub returns : goal.returns
returns c = let w = c.in_ok-end.ensures in (w.0, query_all _ _ _ _ c.in_ok-want.ensures.1 _ _ c.in_ok-budget.ensures.1 _ w.1)

use Rattle.readers.proofs.CutLaws.{due_none, due_other, due_value}
use Rattle.readers.proofs.value_at.Goals as goal

pub returns-in_err-n : goal.returns-in_err-n
returns-in_err-n c =
    let a = c.args in due_none a.key.now a.s.now a.at _ c.from_residual.ensures c.in_err-n.ensures

pub returns-in_err-value : goal.returns-in_err-value
returns-in_err-value c =
    let a = c.args in
    due_other a.key.now a.s.now a.at c.in_ok-n.n c.in_ok-n.ensures.1 _ c.from_residual-in_err-value.ensures c.in_err-value.ensures.cases

pub returns : goal.returns
returns c =
    let a = c.args in
    let w = c.in_ok-value.ensures.cases in
    due_value a.key.now a.s.now a.at c.in_ok-n.n c.in_ok-n.ensures.1 w.0 _ w.1 c.in_ok-n.ensures.0 c.requires

use Rattle.std.proofs.lemmas.Result.{err_from_is_err_and}
use Rattle.verdict.proofs.SaidLaws.{refused_on, held_on}
use Rattle.tree.specs.Rules.{check_rules}
use Rattle.found.specs.Search.{query_rules}
use Rattle.search.proofs.fault.Goals as goal

pub returns-in_err-want_fault : goal.returns-in_err-want_fault
returns-in_err-want_fault c =
    let p = err_from_is_err_and c.from_residual.result c.from_residual.ensures.1 in
    rw (p.1, p.2) (refused_on (query_rules c.args.want) (check_rules c.args.t.now c.args.tree.now) _ c.in_err-want_fault.ensures)

pub returns : goal.returns
returns c = held_on (query_rules c.args.want) (check_rules c.args.t.now c.args.tree.now) c.in_ok-want_fault.ensures c.check.ensures

use Rattle.table.specs.Table.{table_rules}
use Rattle.table.proofs.TableLaws.{valid_even}
use Rattle.verdict.proofs.SaidLaws.{handed_on, held_on, none_refused}
use Rattle.tree.specs.Rules.{tree_rules}
use Rattle.inspect.proofs.check.Goals as goal

pub returns-in_err-check : goal.returns-in_err-check
returns-in_err-check c =
    handed_on (table_rules c.args.t.now) (tree_rules c.args.t.now c.args.tree.now) _ c.in_err-check.field-0.0 c.from_residual.ensures.1 c.in_err-check.ensures

pub check_tree-requires : goal.check_tree-requires
check_tree-requires c = valid_even (none_refused (table_rules c.args.t.now) c.in_ok-check.ensures)

pub returns : goal.returns
returns c = held_on (table_rules c.args.t.now) (tree_rules c.args.t.now c.args.tree.now) c.in_ok-check.ensures c.check_tree.ensures

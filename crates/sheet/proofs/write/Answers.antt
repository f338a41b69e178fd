-- A refusal keeps all; else the whole sheet is put.
use Rattle.std.proofs.Common.{◌≡◌, [], ◌∷◌, length, arith}
use Rattle.table.specs.Table.{table_rules}
use Rattle.table.proofs.TableLaws.{valid_even}
use Rattle.verdict.proofs.SaidLaws.{handed_on, held_on, none_refused}
use Rattle.rows.specs.Sheet.{asked, sheet_bytes}
use Rattle.sheet.specs.Write.{rule54}
use Rattle.sheet.proofs.WriteLaws.{too_short, long_enough}
use Rattle.sheet.proofs.write.Goals as goal

pub returns-in_err-check-clause-refused : goal.returns-in_err-check-clause-refused
returns-in_err-check-clause-refused c =
    let h = asked c.args.t.now c.args.want c.args.budget in
    handed_on (table_rules c.args.t.now) (rule54 h (length c.args.out.now) ∷ []) _ c.in_err-check.field-0.0 c.from_residual.ensures.1 c.in_err-check.ensures

pub size_of-requires : goal.size_of-requires
size_of-requires c = let e = valid_even (none_refused (table_rules c.args.t.now) c.in_ok-check.ensures) in (e.y, e.few)

pub returns-then-out-size_of-clause-refused : goal.returns-then-out-size_of-clause-refused
returns-then-out-size_of-clause-refused c =
    let h = asked c.args.t.now c.args.want c.args.budget in
    let e = valid_even (none_refused (table_rules c.args.t.now) c.in_ok-check.ensures) in
    let size : c.size_of.result ≡ length (sheet_bytes h) = c.size_of.ensures c.args.t.now.kit c.args.want e.kit in
    held_on (table_rules c.args.t.now) (rule54 h (length c.args.out.now) ∷ []) c.in_ok-check.ensures
    (too_short h (length c.args.out.now) (omega (arith, size, c.if-out-size_of.true)))

pub put_sheet-requires : goal.put_sheet-requires
put_sheet-requires c =
    let h = asked c.args.t.now c.args.want c.args.budget in
    let e = valid_even (none_refused (table_rules c.args.t.now) c.in_ok-check.ensures) in
    let size : c.size_of.result ≡ length (sheet_bytes h) = c.size_of.ensures c.args.t.now.kit c.args.want e.kit in
    (e, omega (arith, size, c.if-out-size_of.false))

pub returns-clause-refused : goal.returns-clause-refused
returns-clause-refused c =
    let h = asked c.args.t.now c.args.want c.args.budget in
    let e = valid_even (none_refused (table_rules c.args.t.now) c.in_ok-check.ensures) in
    let size : c.size_of.result ≡ length (sheet_bytes h) = c.size_of.ensures c.args.t.now.kit c.args.want e.kit in
    held_on (table_rules c.args.t.now) (rule54 h (length c.args.out.now) ∷ []) c.in_ok-check.ensures
    (long_enough h (length c.args.out.now) (omega (arith, size, c.if-out-size_of.false)))

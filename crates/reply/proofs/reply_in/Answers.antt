-- What is read is a valid table, whose answer is printed.
-- Assumes nothing.
use Rattle.std.proofs.Common.{◌≡◌, List, ℕ, refl, sym, ap, subst, ◌∙◌}
use lib.Seq.{length-take-le}
use Rattle.table.specs.Table.{Valid}
use Rattle.answer.specs.Lent.{laid, holding}
use Rattle.reply.proofs.ReplyLaws.{Took, took, read_table, reply_refused, reply_found}
use Rattle.std.specs.Prelude.{Ok, Err}
use Rattle.found.specs.Search.{refused}
use Rattle.verdict.specs.Numbers.{number}
use Rattle.verdict.proofs.SaidLaws.{numbered}
use Rattle.rows.specs.Sheet.{read_sheet}
use Rattle.scan.specs.Read.{told}
use Rattle.reply.specs.Reply.{printed_for}
use Rattle.report.specs.Answer.{answer_lines}
use Rattle.reply.proofs.reply_in.Goals as goal
use Rattle.reply.proofs.reply_in.Goals.{In-Err, In-Ok}

no_sheet : (c : In-Err) → (let e = c.in-Err.refusal in answer_lines (refused (number e.reason) e.at) 0 ≡ printed_for (read_sheet c.args.input.now))
no_sheet c = let e = c.in-Err.refusal in reply_refused _ (told (Err e)) c.in-Err.ensures.value (numbered e.reason)

pub returns-in-Err-clause-value : goal.returns-in-Err-clause-value
returns-in-Err-clause-value c =
    c.refuse.ensures.value ∙ ap (λ (b : List ℕ). laid b c.args.out.now) (no_sheet (goal.at.returns-in-Err-clause-value c).In-Err)

pub returns-in-Err-clause-out_after : goal.returns-in-Err-clause-out_after
returns-in-Err-clause-out_after c =
    c.refuse.ensures.out_after ∙ ap (λ (b : List ℕ). holding b c.args.out.now) (no_sheet (goal.at.returns-in-Err-clause-out_after c).In-Err)

-- what the columns hold
read : (c : In-Ok) → (let after = c.take_in.new.into in Took c.args.input.now (told (Ok c.in-Ok.s)) after.0 after.1.0 after.1.1.0)
read c = let e = c.in-Ok.ensures in took _ (told (Ok c.in-Ok.s)) e.value refl _ _ _ _ _ _ e.columns_taken.0 e.columns_taken.1.0 e.columns_taken.1.1

pub slice_bounds-t-end-in-Ok-2 : goal.slice_bounds-t-end-in-Ok-2
slice_bounds-t-end-in-Ok-2 c = (read (goal.at.slice_bounds-t-end-in-Ok-2 c).In-Ok).y.long

pub slice_bounds-t-end-in-Ok-3 : goal.slice_bounds-t-end-in-Ok-3
slice_bounds-t-end-in-Ok-3 c = sym (length-take-le _ _ (read (goal.at.slice_bounds-t-end-in-Ok-3 c).In-Ok).y.long)

pub slice_bounds-t-end-in-Ok-4 : goal.slice_bounds-t-end-in-Ok-4
slice_bounds-t-end-in-Ok-4 c = (read (goal.at.slice_bounds-t-end-in-Ok-4 c).In-Ok).kit.long

pub slice_bounds-t-end-in-Ok-5 : goal.slice_bounds-t-end-in-Ok-5
slice_bounds-t-end-in-Ok-5 c = sym (length-take-le _ _ (read (goal.at.slice_bounds-t-end-in-Ok-5 c).In-Ok).kit.long)

pub search_table-found-requires : goal.search_table-found-requires
search_table-found-requires c =
    let k = read (goal.at.search_table-found-requires c).In-Ok in subst Valid (sym (read_table k)) k.valid

pub returns-in-Ok-clause-value : goal.returns-in-Ok-clause-value
returns-in-Ok-clause-value c =
    let k = read (goal.at.returns-in-Ok-clause-value c).In-Ok in
    c.lines.ensures.value ∙ ap (λ (b : List ℕ). laid b c.args.out.now) (reply_found k c.search_table-found.result c.search_table-found.ensures)

pub returns-in-Ok-clause-out_after : goal.returns-in-Ok-clause-out_after
returns-in-Ok-clause-out_after c =
    let k = read (goal.at.returns-in-Ok-clause-out_after c).In-Ok in
    c.lines.ensures.out_after ∙ ap (λ (b : List ℕ). holding b c.args.out.now) (reply_found k c.search_table-found.result c.search_table-found.ensures)

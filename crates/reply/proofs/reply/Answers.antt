-- Too long an input is refused; else its sheet is answered.
-- Assumes nothing.
use Rattle.std.proofs.Common.{List, ℕ, ap, ◌∙◌}
use Rattle.answer.specs.Lent.{laid, holding}
use Rattle.reply.proofs.ReplyLaws.{printed_long, printed_sheet}
use Rattle.reply.proofs.reply.Goals as goal

pub returns-then-input-gt65536-clause-value : goal.returns-then-input-gt65536-clause-value
returns-then-input-gt65536-clause-value c =
    c.refuse.ensures.value
    ∙ ap (λ (b : List ℕ). laid b c.args.out.now) (printed_long c.args.input.now c.if-input-gt65536.true)

pub returns-then-input-gt65536-clause-out_after : goal.returns-then-input-gt65536-clause-out_after
returns-then-input-gt65536-clause-out_after c =
    c.refuse.ensures.out_after
    ∙ ap (λ (b : List ℕ). holding b c.args.out.now) (printed_long c.args.input.now c.if-input-gt65536.true)

pub returns-clause-value : goal.returns-clause-value
returns-clause-value c = c.reply_in.ensures.value ∙ ap (λ (b : List ℕ). laid b c.args.out.now) (printed_sheet c.args.input.now c.if-input-gt65536.false)

pub returns-clause-out_after : goal.returns-clause-out_after
returns-clause-out_after c = c.reply_in.ensures.out_after ∙ ap (λ (b : List ℕ). holding b c.args.out.now) (printed_sheet c.args.input.now c.if-input-gt65536.false)

-- By the code, and each answer has room.
-- Assumes nothing.
use Rattle.std.proofs.Common.{◌≡◌, length, arith, rules}
use Rattle.kit.specs.Kit.{kinds}
use Rattle.lines.specs.Text.{ascii}
use Rattle.print.proofs.WroteLaws.{wrote_text}
use Rattle.answer.proofs.AnswerLaws.{of_found, of_none, of_spent, of_refused}
use Rattle.answer.proofs.LengthLaws.{found_most, stopped_most, refused_most}
use Rattle.answer.proofs.put_answer.Goals as goal

pub put_found-requires : goal.put_found-requires
put_found-requires c =
    let f = c.args.found.now in
    let eight : length f.places ≡ 8 = search rules in
    omega (arith, found_most f.squared f.steps (kinds c.args.want) f.places (omega arith))

pub put_stopped-requires : goal.put_stopped-requires
put_stopped-requires c = omega (arith, stopped_most (ascii "none") c.args.found.now.steps (omega arith))

pub put_stopped-requires-in-32 : goal.put_stopped-requires-in-32
put_stopped-requires-in-32 c = omega (arith, stopped_most (ascii "spent") c.args.found.now.steps (omega arith))

pub put_refused-requires : goal.put_refused-requires
put_refused-requires c = let f = c.args.found.now in omega (arith, refused_most f.code f.at)

pub returns-in-0 : goal.returns-in-0
returns-in-0 c = wrote_text (of_found c.args.found.now c.args.want c.in-0.is) c.put_found.ensures

pub returns-in-31 : goal.returns-in-31
returns-in-31 c = wrote_text (of_none c.args.found.now c.args.want (λ e. omega arith) c.in-31.is) c.put_stopped.ensures

pub returns-in-32 : goal.returns-in-32
returns-in-32 c = wrote_text (of_spent c.args.found.now c.args.want (λ e. omega arith) (λ e. omega arith) c.in-32.is) c.put_stopped-in-32.ensures

pub returns-in_default : goal.returns-in_default
returns-in_default c =
    let f = c.args.found.now in
    wrote_text (of_refused f c.args.want (λ e. omega arith) (λ e. omega arith) (λ e. omega arith)) c.put_refused.ensures

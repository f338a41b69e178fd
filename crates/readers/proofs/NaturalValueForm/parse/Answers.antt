use Rattle.std.proofs.Common.{ℕ, ◌*◌, ◌+◌, get_or, subst, sym, ◌∙◌, arith}
use Rattle.lines.proofs.DigitLaws.{unglyph_low}
use Rattle.readers.proofs.ParseLaws.{Sofar, sofar_none, sofar_more, bad_digit, bad_lead, bad_most, good, digit_make, digit_most}
use Rattle.readers.proofs.NaturalValueForm.parse.Goals as goal
use Rattle.readers.proofs.NaturalValueForm.parse.Goals.{After-from}

-- one more digit
passed_on : (c : After-from) → Sofar 10 c.args.t.now (c.loop-c.a * 10 + c.from.result) (c.loop-c.c-index + 1)
passed_on c =
    let t = c.args.t.now in
    let l = c.loop-c in
    let w = c.if-not-is_ascii_digit.ensures.cases in
    subst (λ (v : ℕ). Sofar 10 t (l.a * 10 + v) (l.c-index + 1)) (unglyph_low (get_or t l.c-index 0) (omega (arith, w)) ∙ sym c.from.ensures)
    (sofar_more 10 t l.a l.c-index l.invariant.0 c.loop-c-test.true (digit_make (get_or t l.c-index 0) w.0 w.1))

pub returns-then-not-led : goal.returns-then-not-led
returns-then-not-led c = bad_lead _ _ (omega arith) (λ z. let w = c.led.ensures.1 z in cc)

pub loop-c-init : goal.loop-c-init
loop-c-init c = (sofar_none 10 _, omega arith)

pub returns-then-not-is_ascii_digit : goal.returns-then-not-is_ascii_digit
returns-then-not-is_ascii_digit c =
    bad_digit _ _ (omega arith) _ c.loop-c-test.true (λ d. omega (arith, d.least, digit_most _ d, c.if-not-is_ascii_digit.ensures.cases))

pub returns-then-most-a : goal.returns-then-most-a
returns-then-most-a c = bad_most _ _ (omega arith) _ _ (passed_on (goal.at.returns-then-most-a c).After-from) (omega arith)

pub loop-c-preserved : goal.loop-c-preserved
loop-c-preserved c = (passed_on (goal.at.loop-c-preserved c).After-from, omega arith)

pub returns : goal.returns
returns c =
    good _ _ (omega arith) _ _ c.loop-c.invariant.0 c.loop-c-test.false (omega (arith, c.loop-c.invariant.1, c.from-most.ensures)) (c.led.ensures.0 c.if-not-led.false)

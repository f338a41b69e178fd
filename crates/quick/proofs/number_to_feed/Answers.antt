use Rattle.std.proofs.Common.{ℕ, ◌*◌, ◌+◌, get_or, subst, sym, ◌∙◌, arith}
use Rattle.lines.proofs.DigitLaws.{unglyph_low}
use Rattle.readers.proofs.ParseLaws.{Sofar, sofar_none, sofar_more, digit_make}
use Rattle.quick.proofs.QuickLaws.{number_leads}
use Rattle.quick.proofs.number_to_feed.Goals as goal

pub loop-i-init : goal.loop-i-init
loop-i-init c = (sofar_none 10 _, omega arith)

pub returns-then-c-eq10 : goal.returns-then-c-eq10
returns-then-c-eq10 c =
    let l = c.loop-i in
    number_leads _ _ (omega arith) _ _ l.invariant.0 c.loop-i-test.true c.if-c-eq10.true (omega (arith, l.invariant.1, c.from-most.ensures)) (c.led.ensures.0 c.if-not-led.false)

pub loop-i-preserved : goal.loop-i-preserved
loop-i-preserved c =
    let t = c.args.t.now in
    let l = c.loop-i in
    let w = c.if-not-is_ascii_digit.ensures.cases in (
      subst (λ (v : ℕ). Sofar 10 t (l.a * 10 + v) (l.i + 1)) (unglyph_low (get_or t l.i 0) (omega (arith, w)) ∙ sym c.from.ensures)
          (sofar_more 10 t l.a l.i l.invariant.0 c.loop-i-test.true (digit_make (get_or t l.i 0) w.0 w.1)),
      omega arith,
    )

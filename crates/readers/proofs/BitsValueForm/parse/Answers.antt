use Rattle.std.proofs.Common.{ℕ, ◌*◌, ◌+◌, subst, sym, arith}
use Rattle.lines.specs.Form.{bits}
use Rattle.readers.proofs.ParseLaws.{Sofar, unparsed, sofar_none, sofar_more, sofar_below, room, bits_length, bits_digit, bits_good}
use Rattle.readers.proofs.BitsValueForm.parse.Goals as goal

pub returns-then-t-ne16 : goal.returns-then-t-ne16
returns-then-t-ne16 c = bits_length _ c.if-t-ne16.true

pub loop-c-init : goal.loop-c-init
loop-c-init c = sofar_none 16 _

pub overflow_mul-a : goal.overflow_mul-a
overflow_mul-a c =
    let l = c.loop-c in
    record { fits = omega (arith, room l.a l.c-index 0 (sofar_below 16 (omega arith) (omega arith) _ l.a l.c-index l.invariant) (omega arith) (omega arith)) }

pub returns-in_err-a : goal.returns-in_err-a
returns-in_err-a c = unparsed bits _ _ c.from_residual.ensures (bits_digit _ _ c.loop-c-test.true c.in_err-a.ensures)

pub overflow_add-a : goal.overflow_add-a
overflow_add-a c =
    let l = c.loop-c in
    let w = c.in_ok-a.ensures in
    record { fits = room l.a l.c-index c.in_ok-a.field-0 (sofar_below 16 (omega arith) (omega arith) _ l.a l.c-index l.invariant) (omega arith) (omega (arith, w.0.below, w.1)) }

pub loop-c-preserved : goal.loop-c-preserved
loop-c-preserved c =
    let l = c.loop-c in
    let w = c.in_ok-a.ensures in
    subst (λ (v : ℕ). Sofar 16 c.args.t.now (l.a * 16 + v) (l.c-index + 1)) (sym w.1) (sofar_more 16 c.args.t.now l.a l.c-index l.invariant c.loop-c-test.true w.0)

pub returns : goal.returns
returns c = bits_good _ _ _ c.loop-c.invariant c.loop-c-test.false c.if-t-ne16.false

use Rattle.std.proofs.Common.{◌≡◌, ℕ, List, get_or, drop, pos, ap, sym, subst, ◌∙◌, arith}
use mir.Syntax.{w32}
use mir.Facts.{to_z_pos}
use Rattle.lines.specs.Text.{minus, value_from}
use Rattle.lines.specs.Form.{InForm, natural, coordinate}
use Rattle.readers.proofs.ParseLaws.{unparsed}
use Rattle.readers.proofs.SignedLaws.{minus_there, minus_none, minus_bad, minus_zero, minus_good, plain_bad, plain_good, neg_held}
use Rattle.readers.proofs.CoordinateValueForm.parse.Goals as goal
use Rattle.readers.proofs.CoordinateValueForm.parse.Goals.{In-Some, In_ok-n}

pub returns-in_err-parse : goal.returns-in_err-parse
returns-in_err-parse c =
    unparsed (coordinate 1000000) c.args.t.now _ c.from_residual.ensures (plain_bad 1000000 (omega arith) c.args.t.now (minus_none c.args.t.now c.in_default.ensures.cases) c.in_err-parse.ensures)

pub returns-in_default : goal.returns-in_default
returns-in_default c =
    let w = c.in_ok-parse.ensures in
    let g = plain_good 1000000 (omega arith) c.args.t.now (minus_none c.args.t.now c.in_default.ensures.cases) w.0 in
    (g.0, to_z_pos w32 (omega (arith, w.0.0, w.1)) ∙ ap pos w.1 ∙ sym g.1)

-- what stands after the minus
signed : (c : In-Some) → get_or c.args.t.now 0 0 ≡ 45
signed c = minus_there c.args.t.now c.in-Some.ensures.cases.0

-- and the number there
number : (c : In_ok-n) → InForm (natural 1000000) (drop 1 c.args.t.now) × (c.in_ok-n.n ≡ value_from 10 0 (drop 1 c.args.t.now))
number c =
    subst (λ (u : List ℕ). InForm (natural 1000000) u × (c.in_ok-n.n ≡ value_from 10 0 u)) c.in-Some.ensures.cases.1 c.in_ok-n.ensures

pub returns-in_err-n : goal.returns-in_err-n
returns-in_err-n c =
    unparsed (coordinate 1000000) c.args.t.now _ c.from_residual-in_err-n.ensures
    (minus_bad 1000000 (omega arith) c.args.t.now (signed (goal.at.returns-in_err-n c).In-Some) (subst (λ (u : List ℕ). InForm (natural 1000000) u → ⊥) c.in-Some.ensures.cases.1 c.in_err-n.ensures))

pub returns-then-n-eq0 : goal.returns-then-n-eq0
returns-then-n-eq0 c =
    let p = goal.at.returns-then-n-eq0 c in
    minus_zero 1000000 (omega arith) c.args.t.now (signed p.In-Some) (sym (number p.In_ok-n).1 ∙ c.if-n-eq0.true)

pub returns : goal.returns
returns c =
    let p = goal.at.returns c in
    let w = number p.In_ok-n in
    let g = minus_good 1000000 (omega arith) c.args.t.now (signed p.In-Some) w.0 (λ e. c.if-n-eq0.false (w.1 ∙ e)) in
    (g.0, neg_held _ (omega (arith, w.0.0, w.1)) ∙ ap minus w.1 ∙ sym g.1)

use Rattle.std.proofs.Common.{◌≡◌, ℕ, drop, ap, ap₂, sym, ◌∙◌, ℤ, arith}
use Rattle.lines.specs.Text.{ascii, decimal}
use Rattle.lines.specs.Form.{word}
use Rattle.lines.specs.Line.{got, read_line}
use Rattle.readers.proofs.ReadLaws.{reads_refused}
use Rattle.readers.proofs.KnownLaws.{number_refused, number_same, number_other}
use Rattle.rows.specs.Sheet.{place_part}
use Rattle.parts.specs.Parts.{row}
use Rattle.parts.proofs.PlaceLaws.{place_1, place_2, place_3, place_4, place_all, held_32}
use Rattle.parts.proofs.careful_place.Goals as goal
use Rattle.parts.proofs.careful_place.Goals.{Else-number-i}

-- the place's number
numbered : (c : Else-number-i) → (let a = c.args in read_line (ascii "place=") (word (decimal a.i)) a.line (drop a.at a.src.now) ≡ got tt (drop c.in_ok-number.number.next a.src.now))
numbered c =
    let a = c.args in
    let n = c.in_ok-number.number in
    number_same (ascii "place=") 4095 a.i a.line (drop a.at a.src.now) (omega arith) (omega (arith, c.requires)) (drop n.next a.src.now)
    (c.in_ok-number.ensures.1 ∙ ap (λ (v : ℕ). got v (drop n.next a.src.now)) c.if-number-i.false)

pub returns-in_err-number : goal.returns-in_err-number
returns-in_err-number c =
    let a = c.args in
    reads_refused row a.src.now ((place_part a.i).read a.line (drop a.at a.src.now)) _ c.in_err-number.field-0.0 c.from_residual.ensures.1
    (place_1 a.i a.line _ _ _ (number_refused (ascii "place=") 4095 a.i a.line (drop a.at a.src.now) (omega arith) (omega (arith, c.requires)) _ _ c.in_err-number.ensures))

pub returns-then-number-i : goal.returns-then-number-i
returns-then-number-i c =
    let a = c.args in
    place_1 a.i a.line _ _ _ (number_other (ascii "place=") 4095 a.i a.line (drop a.at a.src.now) (omega arith) (omega (arith, c.requires)) _ _ c.in_ok-number.ensures.1 c.if-number-i.true)

pub returns-in_err-x : goal.returns-in_err-x
returns-in_err-x c =
    let a = c.args in
    reads_refused row a.src.now ((place_part a.i).read a.line (drop a.at a.src.now)) _ c.in_err-x.field-0.0 c.from_residual-in_err-x.ensures.1
    (place_2 a.i a.line _ _ (numbered (goal.at.returns-in_err-x c).Else-number-i) _ _ c.in_err-x.ensures)

pub returns-in_err-y : goal.returns-in_err-y
returns-in_err-y c =
    let a = c.args in
    reads_refused row a.src.now ((place_part a.i).read a.line (drop a.at a.src.now)) _ c.in_err-y.field-0.0 c.from_residual-in_err-y.ensures.1
    (place_3 a.i a.line _ _ (numbered (goal.at.returns-in_err-y c).Else-number-i) _ _ c.in_ok-x.ensures.1 _ _ c.in_err-y.ensures)

pub returns-in_err-kit : goal.returns-in_err-kit
returns-in_err-kit c =
    let a = c.args in
    reads_refused row a.src.now ((place_part a.i).read a.line (drop a.at a.src.now)) _ c.in_err-kit.field-0.0 c.from_residual-in_err-kit.ensures.1
    (place_4 a.i a.line _ _ (numbered (goal.at.returns-in_err-kit c).Else-number-i) _ _ c.in_ok-x.ensures.1 _ _ c.in_ok-y.ensures.1 _ _ c.in_err-kit.ensures)

pub returns : goal.returns
returns c =
    let a = c.args in
    let w = c.in_ok-kit.ensures in
    let p = place_all a.i a.line _ _ (numbered (goal.at.returns c).Else-number-i) _ _ c.in_ok-x.ensures.1 _ _ c.in_ok-y.ensures.1 _ _ w.1 in
    let r = drop c.in_ok-kit.kit.next a.src.now in
    let k = c.in_ok-kit.kit.value in
    let x = held_32 (ascii "x=") tt _ _ _ _ c.in_ok-x.ensures.1 in
    let y = held_32 (ascii "y=") tt _ _ _ _ c.in_ok-y.ensures.1 in
    (w.0, p ∙ ap₂ (λ (x y : ℤ). got (x, (y, k)) r) (sym x) (sym y))

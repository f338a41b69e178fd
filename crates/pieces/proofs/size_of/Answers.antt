-- The bytes of the places are added one place after the other; no sheet has more than a word can count.
-- Assumes nothing.
use Rattle.std.proofs.Common.{◌≡◌, ◌+◌, ap, get_or, length, pos, arith, rules}
use mir.Val.{to_z, of_z}
use mir.Syntax.{w32}
use mir.Facts.{to_z-of_z}
use Rattle.table.specs.Table.{table}
use Rattle.lines.specs.Text.{width}
use Rattle.lines.proofs.NumberLaws.{decimal_length, width_most}
use Rattle.rows.proofs.SizeLaws.{size_to, size_none, size_next, size_most, place_length, sheet_length}
use Rattle.pieces.proofs.size_of.Goals as goal

pub overflow_add-size : goal.overflow_add-size
overflow_add-size c = let n = length c.t.inside.x.now in omega (arith, c.width.ensures, decimal_length n, width_most n)

pub overflow_add-size-2 : goal.overflow_add-size-2
overflow_add-size-2 c =
    let n = length c.t.inside.x.now in
    let b = c.from.result in
    omega (arith, c.width.ensures, decimal_length n, width_most n, c.width-2.ensures, decimal_length b, width_most b)

pub loop-i-init : goal.loop-i-init
loop-i-init c =
    let a = c.args in
    omega (arith, c.width.ensures, decimal_length (length c.t.inside.x.now), c.width-2.ensures, decimal_length c.from.result, ap width c.from.ensures, size_none c.t.inside.x.now c.t.inside.y.now)

pub overflow_add-size-in-loop-i : goal.overflow_add-size-in-loop-i
overflow_add-size-in-loop-i c =
    let a = c.args in
    let i = c.loop-i.i in
    let x : to_z w32 (of_z w32 (get_or c.t.inside.x.now i (pos 0))) ≡ get_or c.t.inside.x.now i (pos 0) = search (rules, to_z-of_z) in
    let y : to_z w32 (of_z w32 (get_or c.t.inside.y.now i (pos 0))) ≡ get_or c.t.inside.y.now i (pos 0) = search (rules, to_z-of_z) in
    let more = rw (x, y) at (c.place_size-size.ensures 0) in
    let few = rw (← c.t.view_is) at c.requires in
    omega (
      arith,
      few.1,
      place_length i (get_or c.t.inside.x.now i (pos 0)) (get_or c.t.inside.y.now i (pos 0)) 0,
      size_next c.t.inside.x.now c.t.inside.y.now i,
      size_most c.t.inside.x.now c.t.inside.y.now (i + 1),
      width_most (length c.t.inside.x.now),
      width_most a.budget,
    )

pub loop-i-preserved : goal.loop-i-preserved
loop-i-preserved c =
    let a = c.args in
    let i = c.loop-i.i in
    let x : to_z w32 (of_z w32 (get_or c.t.inside.x.now i (pos 0))) ≡ get_or c.t.inside.x.now i (pos 0) = search (rules, to_z-of_z) in
    let y : to_z w32 (of_z w32 (get_or c.t.inside.y.now i (pos 0))) ≡ get_or c.t.inside.y.now i (pos 0) = search (rules, to_z-of_z) in
    let more = rw (x, y) at (c.place_size-size.ensures 0) in
    omega (arith, place_length i (get_or c.t.inside.x.now i (pos 0)) (get_or c.t.inside.y.now i (pos 0)) 0, size_next c.t.inside.x.now c.t.inside.y.now i)

pub returns : goal.returns
returns c =
    let x = c.t.inside.x.now in
    let y = c.t.inside.y.now in
    let done : c.loop-i.i ≡ length x = omega arith in
    let even = rw (← c.t.view_is) at c.requires in
    rw (← c.t.view_is)
    (λ kit want e.
    omega (
      arith,
      ap (size_to x y) done,
      sheet_length (table x y kit) want c.args.budget (record { y = even.0; kit = e; few = even.1 }),
    ))

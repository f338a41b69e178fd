-- One place after the other, in the order of their numbers.
-- Assumes nothing.
use Rattle.std.proofs.Common.{◌≡◌, ◌∙◌, ap, get_or, length, pos, arith, rules}
use mir.Val.{to_z, of_z}
use mir.Syntax.{w32}
use mir.Facts.{to_z-of_z}
use Rattle.table.specs.Table.{places}
use Rattle.print.proofs.WroteLaws.{wrote_text}
use Rattle.rows.specs.Pieces.{places_text}
use Rattle.pieces.proofs.PlaceLaws.{no_place, place_room, place_more}
use Rattle.pieces.proofs.put_places.Goals as goal

pub loop-i-init : goal.loop-i-init
loop-i-init c = no_place c.args.t.now c.requires.1

pub put_place-requires : goal.put_place-requires
put_place-requires c =
    let i = c.loop-i.i in
    let x : to_z w32 (of_z w32 (get_or c.t.inside.x.now i (pos 0))) ≡ get_or c.t.inside.x.now i (pos 0) = search (rules, to_z-of_z) in
    let y : to_z w32 (of_z w32 (get_or c.t.inside.y.now i (pos 0))) ≡ get_or c.t.inside.y.now i (pos 0) = search (rules, to_z-of_z) in
    rw (x, y) (place_room _ (rw (← c.t.view_is) at c.requires.1) i (rw (← c.t.view_is) at c.loop-i.invariant) c.loop-i-test.true)

pub loop-i-preserved : goal.loop-i-preserved
loop-i-preserved c =
    let i = c.loop-i.i in
    let x : to_z w32 (of_z w32 (get_or c.t.inside.x.now i (pos 0))) ≡ get_or c.t.inside.x.now i (pos 0) = search (rules, to_z-of_z) in
    let y : to_z w32 (of_z w32 (get_or c.t.inside.y.now i (pos 0))) ≡ get_or c.t.inside.y.now i (pos 0) = search (rules, to_z-of_z) in
    rw (← c.t.view_is) (place_more _ (rw (← c.t.view_is) at c.requires.1) i (rw (← c.t.view_is) at c.loop-i.invariant) (rw (x, y) at c.put_place.ensures))

pub returns : goal.returns
returns c =
    let e : c.loop-i.i ≡ length c.t.inside.x.now = omega arith in
    let all : c.loop-i.i ≡ places c.args.t.now = e ∙ ap places c.t.view_is in
    wrote_text (ap (places_text c.args.t.now) all) c.loop-i.invariant

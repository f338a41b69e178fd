-- The three pieces, one after the other.
-- Assumes nothing.
use Rattle.std.proofs.Common.{◌+◌, ◌≤◌, sym, ap, ◌++◌, length, length-append, arith, rules}
use Rattle.table.specs.Table.{places}
use Rattle.print.proofs.WroteLaws.{wrote_then, wrote_text, room_next}
use Rattle.rows.specs.Pieces.{head_text, places_text, query_text}
use Rattle.rows.proofs.PieceLaws.{in_pieces}
use Rattle.pieces.proofs.put_sheet.Goals as goal

pub put_head-requires : goal.put_head-requires
put_head-requires c =
    let a = c.args in
    let t = a.t.now in
    let rest = places_text t (places t) ++ query_text a.want a.budget in
    let fits : 0 + length (head_text (places t) ++ rest) ≤ length a.out.now = omega (arith, c.requires.1, ap length (in_pieces t a.want a.budget c.requires.0)) in
    rw c.places.ensures (omega (arith, length-append (head_text (places t)) rest))

pub put_places-requires : goal.put_places-requires
put_places-requires c =
    let a = c.args in
    let t = a.t.now in
    let rest = places_text t (places t) ++ query_text a.want a.budget in
    let fits : 0 + length (head_text (places t) ++ rest) ≤ length a.out.now = omega (arith, c.requires.1, ap length (in_pieces t a.want a.budget c.requires.0)) in
    let next = room_next rest (wrote_text (ap head_text c.places.ensures) c.put_head.ensures) fits in
    (c.requires.0, omega (arith, length-append (places_text t (places t)) (query_text a.want a.budget)))

pub put_query-requires : goal.put_query-requires
put_query-requires c =
    let a = c.args in
    let t = a.t.now in
    let rest = places_text t (places t) ++ query_text a.want a.budget in
    let fits : 0 + length (head_text (places t) ++ rest) ≤ length a.out.now = omega (arith, c.requires.1, ap length (in_pieces t a.want a.budget c.requires.0)) in
    room_next (query_text a.want a.budget) c.put_places.ensures (room_next rest (wrote_text (ap head_text c.places.ensures) c.put_head.ensures) fits)

pub returns : goal.returns
returns c =
    let a = c.args in
    let head = wrote_text (ap head_text c.places.ensures) c.put_head.ensures in
    let all = wrote_text (sym (in_pieces a.t.now a.want a.budget c.requires.0)) (wrote_then head (wrote_then c.put_places.ensures c.put_query.ensures)) in
    search rules

-- The same for the public functions that are there for other crates: any two results that the contract allows are equal, and so is all that was lent, afterwards.
-- `Post` is the contract as the toolchain reads it from the source. Assumes nothing.
use mathlib.Core.Path.{◌≡◌, refl, sym, ap₂, ◌∙◌}
use mathlib.Core.Bool.{Bool, true, false}
use mathlib.Core.List.{List, []}
use Prim.Native.Nat.{ℕ}
use lib.ListN.{drop}
use denote.Ref.{Bor}
use denote.RattleType.{RattleType}
use denote.Param.Laws.{Laws}
use mir.Syntax.{Dict}
use Rattle.table.specs.Table.{table}
use Rattle.tree.specs.Tree.{Shape}
use Rattle.tree.specs.Lent.{shape, sides, Decides}
use Rattle.lines.specs.Form.{word, natural, coordinate, bits}
use Rattle.lines.specs.Line.{read_line}
use Rattle.readers.proofs.ReadLaws.{reads_one}
use Rattle.print.specs.Wrote.{Wrote}
use Rattle.print.specs.declared.Page.{Page}
use Rattle.print.specs.declared.Value.{Ghosts}
use Rattle.promises.proofs.SaidLaws.{check_one}
use Rattle.verdict.proofs.Reason.code.Reads as reason-code
use Rattle.plane.proofs.is_outside.Reads as is-outside
use Rattle.plane.proofs.is_off.Reads as is-off
use Rattle.plane.proofs.apart_of.Reads as apart_of
use Rattle.plane.proofs.box_join.Reads as box-join
use Rattle.kit.proofs.holds.Reads as holds
use Rattle.kit.proofs.holds_all.Reads as holds_all
use Rattle.kit.proofs.count_kinds.Reads as count-kinds
use Rattle.kit.proofs.list_kinds.Reads as list-kinds
use Rattle.table.proofs.Table.places.Reads as places
use Rattle.table.proofs.check.Reads as check-table
use Rattle.arrange.proofs.write_order.Reads as write-order
use Rattle.tree.proofs.Tree.shape.Reads as shape
use Rattle.tree.proofs.Tree.lengths.Reads as lengths
use Rattle.tree.proofs.has_room.Reads as has_room
use Rattle.tree.proofs.Sides.of_points.Reads as of-points
use Rattle.tree.proofs.Sides.box_at.Reads as box_at
use Rattle.tree.proofs.run_box.Reads as run-box
use Rattle.tree.proofs.run_kit.Reads as run-kit
use Rattle.shapes.proofs.counted.Reads as counted
use Rattle.shapes.proofs.runs.Reads as runs
use Rattle.shapes.proofs.moved.Reads as moved
use Rattle.shapes.proofs.names.Reads as names
use Rattle.marks.proofs.distinct.Reads as distinct
use Rattle.walk.proofs.walk_all.Reads as walk-all
use Rattle.found.proofs.refuse.Reads as refuse
use Rattle.found.proofs.want_fault.Reads as want-fault
use Rattle.found.proofs.root_holds.Reads as root-holds
use Rattle.found.proofs.outcome_of.Reads as outcome-of
use Rattle.search.proofs.search_over.Reads as search-over
use Rattle.readers.proofs.line_number.Reads as line-number
use Rattle.readers.proofs.line_bits.Reads as line-bits
use Rattle.readers.proofs.line_coordinate.Reads as line-coordinate
use Rattle.readers.proofs.line_word.Reads as line_word
use Rattle.print.proofs.Page.put.Reads as put
use Rattle.print.proofs.Page.put_line.Reads as put-line
use Rattle.print.proofs.RefSliceU8Value.put.Reads as put-word
use Rattle.print.proofs.U64Value.put.Reads as put-decimal
use Rattle.print.proofs.BitsValue.put.Reads as put-hex
use Rattle.print.proofs.I32Value.put.Reads as put-signed
use Rattle.print.proofs.U64Number.width.Reads as width
use Rattle.print.proofs.I32Number.width.Reads as signed-width
use Rattle.promises.specs.Settles.{Settles, nothing}

-- a decision is one answer
decides_one : {P : Type 0} {r r' : Bool} → Decides r P → Decides r' P → r ≡ r'
decides_one {r = true} {r' = true} d e = refl
decides_one {r = true} {r' = false} d e = absurd (e.fails refl (d.holds refl))
decides_one {r = false} {r' = true} d e = absurd (d.fails refl (e.holds refl))
decides_one {r = false} {r' = false} d e = refl

-- the number of a refusal's reason
pub reason_code_settled : Settles nothing reason-code.Post
reason_code_settled κs a r r' b b' h k = (h ∙ sym k, refl)

-- whether a coordinate is out of range
pub is_outside_settled : Settles nothing is-outside.Post
is_outside_settled κs a r r' b b' h k = (h ∙ sym k, refl)

-- whether a point is
pub is_off_settled : Settles nothing is-off.Post
is_off_settled κs a r r' b b' h k = (h ∙ sym k, refl)

-- the squared distance of two boxes
pub apart_of_settled : Settles nothing apart_of.Post
apart_of_settled κs a r r' b b' h k = (h ∙ sym k, refl)

-- the tightest box around two
pub box_join_settled : Settles nothing box-join.Post
box_join_settled κs a r r' b b' h k = (h ∙ sym k, refl)

-- whether a kit word holds a kind
pub holds_settled : Settles nothing holds.Post
holds_settled κs a r r' b b' h k = (h ∙ sym k, refl)

-- whether it holds every kind of a want
pub holds_all_settled : Settles nothing holds_all.Post
holds_all_settled κs a r r' b b' h k = (h ∙ sym k, refl)

-- how many kinds a want names
pub count_kinds_settled : Settles nothing count-kinds.Post
count_kinds_settled κs a r r' b b' h k = (h ∙ sym k, refl)

-- the kinds of a want
pub list_kinds_settled : Settles nothing list-kinds.Post
list_kinds_settled κs a r r' b b' h k = (h ∙ sym k, refl)

-- how many places a table has
pub places_settled : Settles nothing places.Post
places_settled κs a r r' b b' h k = (h ∙ sym k, refl)

-- the check of a table
pub check_table_settled : Settles nothing check-table.Post
check_table_settled κs a r r' b b' h k = (check_one r r' (h ∙ sym k), refl)

-- the places in order: the entry list is lent
pub write_order_settled : Settles (λ b. b.1.1.0.now) write-order.Post
write_order_settled κs a r r' b b' h k = (refl, h ∙ sym k)

-- the levels and runs of a tree: what the reference that is handed out shows
pub shape_settled : Settles nothing (λ κs a (s : Shape) b. (r : Bor Shape) × ((r.now ≡ s) × shape.Post κs a r b))
shape_settled κs a s s' b b' h k = (sym h.1.0 ∙ h.1.1 ∙ sym k.1.1 ∙ k.1.0, refl)

-- how long the columns of a tree are
pub lengths_settled : Settles nothing lengths.Post
lengths_settled κs a r r' b b' h k = (h ∙ sym k, refl)

-- whether lent columns have room
pub has_room_settled : Settles nothing has_room.Post
has_room_settled κs a r r' b b' h k = (decides_one h k, refl)

-- the boxes of places
pub of_points_settled : Settles nothing of-points.Post
of_points_settled κs a r r' b b' h k = (h ∙ sym k, refl)

-- the box of a node or of a place
pub box_at_settled : Settles nothing box_at.Post
box_at_settled κs a r r' b b' h k = (h ∙ sym k, refl)

-- the box of a run
pub run_box_settled : Settles nothing run-box.Post
run_box_settled κs a r r' b b' h k = (h ∙ sym k, refl)

-- the kit word of a run
pub run_kit_settled : Settles nothing run-kit.Post
run_kit_settled κs a r r' b b' h k = (h ∙ sym k, refl)

-- the rules 21 to 24, each for itself
pub counted_settled : Settles nothing counted.Post
counted_settled κs a r r' b b' h k = (check_one r r' (h ∙ sym k), refl)

pub runs_settled : Settles nothing runs.Post
runs_settled κs a r r' b b' h k = (check_one r r' (h [] ∙ sym (k [])), refl)

pub names_settled : Settles nothing names.Post
names_settled κs a r r' b b' h k = (check_one r r' (h ∙ sym k), refl)

pub distinct_settled : Settles nothing distinct.Post
distinct_settled κs a r r' b b' h k = (check_one r r' (h ∙ sym k), refl)

-- the run that the next entry stands in
pub moved_settled : Settles nothing moved.Post
moved_settled κs a r r' b b' h k = (h ∙ sym k, refl)

-- the whole walk
pub walk_all_settled : Settles nothing walk-all.Post
walk_all_settled κs a r r' b b' h k = (h ∙ sym k, refl)

-- a refused search
pub refuse_settled : Settles nothing refuse.Post
refuse_settled κs a r r' b b' h k = (h ∙ sym k, refl)

-- what is refused of a want
pub want_fault_settled : Settles nothing want-fault.Post
want_fault_settled κs a r r' b b' h k = (check_one r r' (h ∙ sym k), refl)

-- whether the root holds every kind of a want
pub root_holds_settled : Settles nothing root-holds.Post
root_holds_settled κs a r r' b b' h k = (h (table [] [] []) (shape _ 0 [] [] [] []) (sides [] [] [] []) refl ∙ sym (k (table [] [] []) (shape _ 0 [] [] [] []) (sides [] [] [] []) refl), refl)

-- the answer that a walk ends with
pub outcome_of_settled : Settles nothing outcome-of.Post
outcome_of_settled κs a r r' b b' h k = (h ∙ sym k, refl)

-- the search over a tree that passes
pub search_over_settled : Settles nothing search-over.Post
search_over_settled κs a r r' b b' h k = (h ∙ sym k, refl)

-- a line with a number
pub line_number_settled : Settles nothing line-number.Post
line_number_settled κs a r r' b b' h k = (reads_one a.0.now (read_line a.1.1.1.0.now (natural a.1.1.1.1.0) a.1.1.0 (drop a.1.0 a.0.now)) r r' h k, refl)

-- a line with 64 bits
pub line_bits_settled : Settles nothing line-bits.Post
line_bits_settled κs a r r' b b' h k = (reads_one a.0.now (read_line a.1.1.1.0.now bits a.1.1.0 (drop a.1.0 a.0.now)) r r' h k, refl)

-- a line with a coordinate
pub line_coordinate_settled : Settles nothing line-coordinate.Post
line_coordinate_settled κs a r r' b b' h k = (reads_one a.0.now (read_line a.1.1.1.0.now (coordinate 1000000) a.1.1.0 (drop a.1.0 a.0.now)) r r' h k, refl)

-- a line with a fixed word
pub line_word_settled : Settles nothing line_word.Post
line_word_settled κs a r r' b b' h k = (reads_one a.0.now (read_line a.1.1.1.0.now (word a.1.1.1.1.0.now) a.1.1.0 (drop a.1.0 a.0.now)) r r' h k, refl)

-- bytes, words, numbers and lines put on a page: what stands in its buffer, which is lent, and how far it is written
abbrev pub stands : Page → List ℕ × ℕ
stands p = (p.out.now, p.at)

wrote_one : {p q o : Page} {t : List ℕ} → Wrote p t q → Wrote p t o → stands q ≡ stands o
wrote_one h k = ap₂ (λ (out : List ℕ) (at : ℕ). (out, at)) (h.puts.bytes ∙ sym k.puts.bytes) (h.puts.end ∙ sym k.puts.end)

pub put_settled : Settles (λ b. stands b.0.now) put.Post
put_settled κs a r r' b b' h k = (refl, wrote_one h k)

pub put_word_settled : Settles (λ b. stands b.1.0.now) put-word.Post
put_word_settled κs a r r' b b' h k = (refl, wrote_one h k)

pub put_decimal_settled : Settles (λ b. stands b.1.0.now) put-decimal.Post
put_decimal_settled κs a r r' b b' h k = (refl, wrote_one h k)

pub put_hex_settled : Settles (λ b. stands b.1.0.now) put-hex.Post
put_hex_settled κs a r r' b b' h k = (refl, wrote_one h k)

pub put_signed_settled : Settles (λ b. stands b.1.0.now) put-signed.Post
put_signed_settled κs a r r' b b' h k = (refl, wrote_one h k)

-- a line, whatever its value
pub put_line_settled : (V : RattleType) (laws : Laws V) (value : Ghosts V.Denot) (dict : Dict) → Settles (λ b. stands b.0.now) (put-line.Post V laws value dict)
put_line_settled V laws value dict κs a r r' b b' h k = (refl, wrote_one h k)

-- how many digits a number has, and how many bytes one with a sign
pub width_settled : Settles nothing width.Post
width_settled κs a r r' b b' h k = (h ∙ sym k, refl)

pub signed_width_settled : Settles nothing signed-width.Post
signed_width_settled κs a r r' b b' h k = (h ∙ sym k, refl)

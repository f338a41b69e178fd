use Rattle.std.proofs.Common.{◌≡◌, ◌≤◌, length, drop, refl, ap, sym, subst, ◌∙◌, arith}
use Rattle.table.specs.Table.{places}
use Rattle.lines.specs.Line.{got}
use Rattle.lines.specs.Part.{Outcome, fault, accepted}
use Rattle.readers.specs.Readers.{Reads}
use Rattle.rows.specs.Sheet.{Held, x_of, y_of, word_of, read_sheet}
use Rattle.parts.specs.Parts.{head_part}
use Rattle.parts.proofs.HeadLaws.{head_few}
use Rattle.verdict.specs.Numbers.{number}
use Rattle.scan.specs.Read.{Told, room_in, within, reading_in, sheet_of, told}
use Rattle.scan.specs.Lent.{lent}
use Rattle.scan.proofs.ScanLaws.{told_refused}
use Rattle.scan.proofs.SeveralLaws.{fine_ok}
use Rattle.std.specs.Prelude.{Ok}
use Rattle.sheet.proofs.ReadingLaws.{is_accepted, is_refused, unchanged, head_fine, stands, fits, column}
use Rattle.sheet.proofs.read.Goals as goal
use Rattle.sheet.proofs.read.Goals.{In_err-sheet, In_ok-sheet, After-unwrap-head}

-- a sheet that is refused is refused whatever the columns
refused : (c : In_err-sheet) → (let a = c.args in let e = c.in_err-sheet.field-0.0 in reading_in a.src.now (lent a.into) ≡ fault (number e.reason) e.at)
refused c =
    let a = c.args in
    ap (within (room_in a.into.x.now a.into.y.now a.into.kit.now)) (is_refused c.in_err-sheet.field-0.0 (read_sheet a.src.now) c.in_err-sheet.ensures)

pub returns-in_err-sheet : goal.returns-in_err-sheet
returns-in_err-sheet c =
    let a = c.args in
    let o = refused (goal.at.returns-in_err-sheet c).In_err-sheet in
    record {
      value = told_refused _ c.in_err-sheet.field-0.0 (reading_in a.src.now (lent a.into)) c.from_residual.ensures.1 o;
      columns_after = unchanged _ _ _ _ o;
    }

-- what is known after the first pass
held : (c : In_ok-sheet) → (h : Held) × ((read_sheet c.args.src.now ≡ accepted h) × (told (Ok c.in_ok-sheet.sheet) ≡ sheet_of (accepted h)))
held c = is_accepted c.args.src.now (told (Ok c.in_ok-sheet.sheet)) c.in_ok-sheet.ensures refl

-- and of the head, which is read anew
head : (c : After-unwrap-head) → (let s = c.args.src.now in let r = c.unwrap-head.result in (r.next ≤ length s) × (head_part.read 1 s ≡ got r.value (drop r.next s)))
head c = let s = c.args.src.now in subst (Reads s (head_part.read 1 s)) c.unwrap-head.ensures c.head_of.ensures

pub unwrap-head-requires : goal.unwrap-head-requires
unwrap-head-requires c =
    let s = c.args.src.now in
    let h = held (goal.at.unwrap-head-requires c).In_ok-sheet in
    fine_ok s (head_part.read 1 s) c.head_of.result c.head_of.ensures (head_fine s h.0 h.1.0)

pub fill-requires : goal.fill-requires
fill-requires c =
    let p = goal.at.fill-requires c in
    let h = held p.In_ok-sheet in
    let w = head p.After-unwrap-head in
    let m = (stands c.args.src.now h.0 h.1.0 _ _ w.1).many in
    let e : c.in_ok-sheet.sheet.places ≡ places h.0.table = ap (λ (t : Told). t.places) h.1.1 in
    record {
      at_in_bounds = (w.0, head_few _ _ _ _ w.1);
      places_in_bounds = (omega arith, (omega arith, omega arith));
    }

pub returns : goal.returns
returns c =
    let a = c.args in
    let s = a.src.now in
    let p = goal.at.returns c in
    let h = held p.In_ok-sheet in
    let w = head p.After-unwrap-head in
    let e : c.in_ok-sheet.sheet.places ≡ places h.0.table = ap (λ (t : Told). t.places) h.1.1 in
    let room = room_in a.into.x.now a.into.y.now a.into.kit.now in
    let enough : places h.0.table ≤ room = omega arith in
    let f = c.fill.ensures in
    record {
      value = h.1.1 ∙ ap (λ (o : Outcome Held). sheet_of o) (sym (fits s h.0 h.1.0 room enough));
      columns_after = rw (
        ← column s h.0 h.1.0 _ _ w.1 x_of (λ t. t.x) (λ l. refl) _ _ f.stored.0 room enough,
        ← column s h.0 h.1.0 _ _ w.1 y_of (λ t. t.y) (λ l. refl) _ _ f.stored.1.0 room enough,
        ← column s h.0 h.1.0 _ _ w.1 word_of (λ t. t.kit) (λ l. refl) _ _ f.stored.1.1 room enough,
      )
          refl;
    }

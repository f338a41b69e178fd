use Rattle.std.proofs.Common.{◌≡◌, ◌≤◌, length, drop, subst, sym, ap, arith}
use lib.ListN.{drop_of_length-le}
use lib.Seq.{drop-cons}
use Rattle.lines.specs.Line.{got}
use Rattle.lines.specs.Part.{several, Outcome}
use Rattle.readers.specs.Readers.{Reads}
use Rattle.rows.specs.Sheet.{Held, place_part, read_sheet}
use Rattle.parts.proofs.HeadLaws.{head_few}
use Rattle.scan.specs.Read.{passed, sheet_of}
use Rattle.scan.proofs.ScanLaws.{scan_2, scan_3, scan_53, scan_all, told_refused}
use Rattle.scan.proofs.ending.Goals as goal
use Rattle.scan.proofs.ending.Goals.{Start, In_ok-next}

few : (c : Start) → c.args.places ≤ 4096
few c = head_few _ _ _ _ c.requires.1.0

-- what is known of the places
found : (c : In_ok-next) → (let a = c.args in (c.in_ok-next.field-0.next ≤ length a.src.now) × (passed ((several place_part a.places 0).read 3 c.requires.0) ≡ got tt (drop c.in_ok-next.field-0.next a.src.now)))
found c = let a = c.args in subst (Reads a.src.now (passed ((several place_part a.places 0).read 3 c.requires.0))) c.in_ok-next.was c.requires.1.1

pub returns-in_err-next : goal.returns-in_err-next
returns-in_err-next c =
    let a = c.args in
    let h = subst (Reads a.src.now (passed ((several place_part a.places 0).read 3 c.requires.0))) c.in_err-next.was c.requires.1.1 in
    told_refused _ c.in_err-next.field-0.0 (read_sheet a.src.now) c.from_residual.ensures.1 (scan_2 _ _ _ c.requires.1.0 _ _ h)

pub overflow_mul-places : goal.overflow_mul-places
overflow_mul-places c = omega (arith, few (goal.at.overflow_mul-places c).Start)

pub overflow_add-places : goal.overflow_add-places
overflow_add-places c = omega (arith, few (goal.at.overflow_add-places c).Start)

pub query_at-requires : goal.query_at-requires
query_at-requires c =
    let p = goal.at.query_at-requires c in (
      (found p.In_ok-next).0,
      omega (arith, few p.Start),
    )

pub returns-in_err-query : goal.returns-in_err-query
returns-in_err-query c =
    let p = goal.at.returns-in_err-query c in
    told_refused _ c.in_err-query.field-0.0 (read_sheet c.args.src.now) c.from_residual-in_err-query.ensures.1
    (scan_3 _ _ _ c.requires.1.0 _ (found p.In_ok-next).1 _ _ c.in_err-query.ensures)

pub overflow_mul-line : goal.overflow_mul-line
overflow_mul-line c = omega (arith, few (goal.at.overflow_mul-line c).Start)

pub overflow_add-line : goal.overflow_add-line
overflow_add-line c = omega (arith, few (goal.at.overflow_add-line c).Start)

pub returns-then-query-src : goal.returns-then-query-src
returns-then-query-src c =
    let p = goal.at.returns-then-query-src c in
    sym (ap (λ (o : Outcome Held). sheet_of o) (scan_53 _ _ _ c.requires.1.0 _ (found p.In_ok-next).1 _ _ c.in_ok-query.ensures.1 _ _ (drop-cons _ _ 0 c.if-query-src.true)))

pub returns : goal.returns
returns c =
    let p = goal.at.returns c in
    scan_all _ _ _ c.requires.1.0 _ (found p.In_ok-next).1 _ _ c.in_ok-query.ensures.1 (drop_of_length-le _ c.if-query-src.false)

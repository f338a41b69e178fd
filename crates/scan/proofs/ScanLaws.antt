-- What reading a whole sheet comes to, from what its head, its places and its query tell.
-- Assumes nothing.
use Prim.Native.Nat.{ℕ, ◌+◌, ◌*◌}
use mathlib.Core.Path.{◌≡◌, refl, ap, ap₂, sym, ◌∙◌}
use mathlib.Core.List.{List, [], ◌∷◌}
use native.Mathlib.Omega.{arith}
use lib.ListN.{length, length-map}
use Rattle.table.specs.Table.{places}
use Rattle.lines.specs.Text.{ascii}
use Rattle.lines.specs.Line.{Got, refused, got}
use Rattle.lines.specs.Part.{next, several, Outcome, fault, accepted, ended, read_all}
use Rattle.lines.proofs.PartLaws.{lawful_several}
use Rattle.rows.specs.Sheet.{Held, Place, fixed, place_part, query_part, count_line, rows, x_of, held, sheet_part, read_sheet}
use Rattle.parts.specs.Parts.{head_part}
use Rattle.rows.proofs.RowLaws.{several_length, rows_columns}
use Rattle.rows.proofs.SheetLaws.{lawful_place}
use Rattle.parts.proofs.PlaceLaws.{place_lines}
use Rattle.std.specs.Prelude.{Result, Ok, Err, IsErrAnd}
use Rattle.verdict.specs.declared.Refusal.{Refusal}
use Rattle.verdict.specs.Numbers.{number}
use Rattle.verdict.specs.declared.Reason.{Reason}
use Rattle.verdict.proofs.SaidLaws.{numbered}
use Rattle.readers.proofs.ReadLaws.{number_one}
use Rattle.scan.specs.declared.Sheet.{Sheet}
use Rattle.scan.specs.Read.{Told, sheet_of, told, passed}
use Rattle.scan.proofs.SeveralLaws.{pair, several_lines}

-- what is read after the head, and after the places
abbrev after_places : ℕ → List Place → List ℕ → Got (List Place × (ℕ × ℕ))
after_places p l r = next (query_part.read (3 + (several place_part p 0).lines l) r) (pair l)

abbrev to_held : ℕ → List Place × (ℕ × ℕ) → List ℕ → Got Held
to_held p w r = got (held (p, w)) r

abbrev after_head : ℕ → List ℕ → Got Held
after_head p r = next (next ((several place_part p 0).read 3 r) (after_places p)) (to_held p)

-- the sheet is read as its head and then the rest
abbrev second : {A B : Type 0} → A × B → List ℕ → Got B
second w r = got w.1 r

module _ {A B C : Type 0} (count : List ℕ → Got A) (more : A → List ℕ → Got B) (f : A × B → C) where
  abbrev Whole : Got (Unit {0} × (A × B)) → Got C
  Whole g = next (next g second) (λ w r. got (f w) r)

  abbrev Rest : Got (Unit {0} × A) → Got C
  Rest g = next (next g second) (λ a r. next (more a r) (λ b r'. got (f (a, b)) r'))

  then_more : (u : Unit {0}) (a : A) (g : Got B) → Whole (next (next g (pair a)) (pair u)) ≡ next g (λ b r. got (f (a, b)) r)
  then_more u a (refused c l) = refl
  then_more u a (got b r) = refl

  then_count : (u : Unit {0}) (g : Got A) → Whole (next (next g (λ a r. next (more a r) (pair a))) (pair u)) ≡ Rest (next g (pair u))
  then_count u (refused c l) = refl
  then_count u (got a r) = then_more u a (more a r)

  then_head : (g : Got (Unit {0})) → Whole (next g (λ u r. next (next (count r) (λ a r'. next (more a r') (pair a))) (pair u))) ≡ Rest (next g (λ u r. next (count r) (pair u)))
  then_head (refused c l) = refl
  then_head (got u r) = then_count u (count r)

sheet_next : (s : List ℕ) → sheet_part.read 1 s ≡ next (head_part.read 1 s) after_head
unfolding sheet_part head_part
sheet_next s = then_head (count_line.read 2) (λ p r. next ((several place_part p 0).read 3 r) (after_places p)) held ((fixed (ascii "sheet=") (ascii "1")).read 1 s)

-- what was passed
refusal_passed : {A : Type 0} (g : Got A) (c l : ℕ) → passed g ≡ refused c l → g ≡ refused c l
refusal_passed (refused d m) c l e = cc
refusal_passed (got a r) c l e = absurd (let z : ◌≡◌ {A = ℕ} 0 1 = cc in omega arith)

pub value_passed : {A : Type 0} (g : Got A) (r : List ℕ) → passed g ≡ got tt r → (a : A) × (g ≡ got a r)
value_passed (refused c l) r e = absurd (let z : ◌≡◌ {A = ℕ} 0 1 = cc in omega arith)
value_passed (got a q) r e = (a, let f : q ≡ r = cc in ap (λ (t : List ℕ). got a t) f)

-- as many places are read as are counted
count_read : (p n : ℕ) (s : List ℕ) (l : List Place) (r : List ℕ) → (several place_part p 0).read n s ≡ got l r → length l ≡ p
count_read p n s l r e = several_length place_part p 0 l ((lawful_several place_part lawful_place p 0).whole n s l r e).0

-- the first part that is refused decides
module _ (s : List ℕ) where
  pub scan_1 : (c l : ℕ) → head_part.read 1 s ≡ refused c l → read_sheet s ≡ fault c l
  unfolding read_sheet read_all
  scan_1 c l e = ap (ended sheet_part) (sheet_next s ∙ ap (λ (g : Got ℕ). next g after_head) e)

  module _ (p : ℕ) (r : List ℕ) (e : head_part.read 1 s ≡ got p r) where
    head_read : sheet_part.read 1 s ≡ after_head p r
    head_read = sheet_next s ∙ ap (λ (g : Got ℕ). next g after_head) e

    pub scan_2 : (c l : ℕ) → passed ((several place_part p 0).read 3 r) ≡ refused c l → read_sheet s ≡ fault c l
    unfolding read_sheet read_all
    scan_2 c l f = ap (ended sheet_part) (head_read ∙ ap (λ (g : Got (List Place)). next (next g (after_places p)) (to_held p)) (refusal_passed ((several place_part p 0).read 3 r) c l f))

    module _ (r2 : List ℕ) (f : passed ((several place_part p 0).read 3 r) ≡ got tt r2) where
      -- the places that are found
      abbrev pub found : List Place
      found = (value_passed ((several place_part p 0).read 3 r) r2 f).0

      pub found_read : (several place_part p 0).read 3 r ≡ got found r2
      found_read = (value_passed ((several place_part p 0).read 3 r) r2 f).1

      pub many : length found ≡ p
      many = count_read p 3 r found r2 found_read

      places_read : sheet_part.read 1 s ≡ next (next (query_part.read (3 + 4 * p) r2) (pair found)) (to_held p)
      places_read =
          head_read
          ∙ ap (λ (g : Got (List Place)). next (next g (after_places p)) (to_held p)) found_read
          ∙ ap (λ (n : ℕ). next (next (query_part.read (3 + n) r2) (pair found)) (to_held p)) (several_lines place_part 4 place_lines p 0 found many)

      pub scan_3 : (c l : ℕ) → query_part.read (3 + 4 * p) r2 ≡ refused c l → read_sheet s ≡ fault c l
      unfolding read_sheet read_all
      scan_3 c l g = ap (ended sheet_part) (places_read ∙ ap (λ (k : Got (ℕ × ℕ)). next (next k (pair found)) (to_held p)) g)

      module _ (q : ℕ × ℕ) (r3 : List ℕ) (g : query_part.read (3 + 4 * p) r2 ≡ got q r3) where
        abbrev whole : Held
        whole = held (p, (found, q))

        query_read : sheet_part.read 1 s ≡ got whole r3
        query_read = places_read ∙ ap (λ (k : Got (ℕ × ℕ)). next (next k (pair found)) (to_held p)) g

        counted_places : places whole.table ≡ p
        counted_places = length-map found x_of ∙ many

        last_line : sheet_part.lines whole + 1 ≡ 6 + 4 * p
        unfolding sheet_part query_part
        last_line =
            let e : (several place_part (places whole.table) 0).lines (rows whole.table) ≡ 4 * p =
            ap₂ (λ (n : ℕ) (l : List Place). (several place_part n 0).lines l) counted_places (rows_columns found) ∙ several_lines place_part 4 place_lines p 0 found many in
            omega (arith, e)

        pub scan_53 : (c : ℕ) (t : List ℕ) → r3 ≡ c ∷ t → read_sheet s ≡ fault 53 (6 + 4 * p)
        unfolding read_sheet read_all
        scan_53 c t h = ap (ended sheet_part) (query_read ∙ ap (λ (t : List ℕ). got whole t) h) ∙ ap (λ (n : ℕ). fault 53 n) last_line

        pub scan_accepted : r3 ≡ [] → read_sheet s ≡ accepted whole
        unfolding read_sheet read_all
        scan_accepted h = ap (ended sheet_part) (query_read ∙ ap (λ (t : List ℕ). got whole t) h)

        pub scan_all : r3 ≡ [] → told (Ok (record { places = p; want = q.0; budget = q.1 })) ≡ sheet_of (read_sheet s)
        scan_all h = ap (λ (n : ℕ). told (Ok (record { places = n; want = q.0; budget = q.1 }))) (sym counted_places) ∙ sym (ap (λ (o : Outcome Held). sheet_of o) (scan_accepted h))

-- a refusal that is handed on
pub told_refused : (r : Result Sheet Refusal) (e : Refusal) (o : Outcome Held) → IsErrAnd r (λ x. x ≡ e) → o ≡ fault (number e.reason) e.at → told r ≡ sheet_of o
told_refused (Ok _) e o k h = absurd k
told_refused (Err x) e o k h = ap (λ (x : Refusal). told (Err x)) k ∙ sym (ap (λ (o : Outcome Held). sheet_of o) h)

-- any two results that tell the same are equal
pub told_one : (r q : Result Sheet Refusal) → told r ≡ told q → r ≡ q
told_one (Ok x) (Ok y) e = ap (λ (t : Told). Ok (record { places = t.places; want = t.want; budget = t.budget })) e
told_one (Ok x) (Err f) e = absurd (numbered f.reason (sym (ap (λ (t : Told). t.code) e)))
told_one (Err x) (Ok y) e = absurd (numbered x.reason (ap (λ (t : Told). t.code) e))
told_one (Err x) (Err f) e =
    ap₂ (λ (a : Reason) (l : ℕ). Err (record { reason = a; at = l })) (number_one x.reason f.reason (ap (λ (t : Told). t.code) e)) (ap (λ (t : Told). t.at) e)

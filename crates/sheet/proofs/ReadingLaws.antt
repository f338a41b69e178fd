-- What reading into lent columns comes to, from what the whole sheet told.
-- Assumes nothing.
use Prim.Native.Nat.{ℕ, ◌+◌, ◌*◌, ◌≤◌}
use mathlib.Core.Path.{◌≡◌, refl, ap, ap₂, sym, ◌∙◌, subst}
use mathlib.Core.List.{List, [], ◌∷◌, map}
use native.Mathlib.Decide.{dec_le}
use native.Mathlib.Omega.{arith}
use lib.ListN.{length-map}
use Rattle.table.specs.Table.{Table, places}
use Rattle.lines.specs.Text.{ascii, decimal}
use Rattle.lines.specs.Form.{word, natural, coordinate, bits}
use Rattle.lines.specs.Line.{Got, refused, got}
use Rattle.lines.specs.Part.{and_then, after, several, Outcome, fault, accepted}
use Rattle.lines.proofs.CodeLaws.{Codes, codes_line, codes_then, codes_viewed, codes_after, codes_before, codes_several, codes_all}
use Rattle.rows.specs.Sheet.{Held, Writable, Place, fixed, coordinate_line, kit_line, point_part, place_part, want_line, budget_line, query_part, count_line, body_part, x_of, columns, held, counted, sheet_part, sheet_bytes, read_sheet}
use Rattle.parts.specs.Parts.{head_part}
use Rattle.rows.proofs.SheetLaws.{read_written, written_read}
use Rattle.std.specs.Prelude.{Err}
use Rattle.verdict.specs.declared.Refusal.{Refusal}
use Rattle.verdict.specs.Numbers.{number}
use Rattle.verdict.proofs.SaidLaws.{numbered}
use Rattle.scan.specs.Read.{Told, told, within, sheet_of, column_after, columns_after, column_taken, stored, passed, Fine}
use Rattle.scan.specs.Lent.{over}
use Rattle.scan.proofs.ScanLaws.{scan_1, scan_2, scan_3, scan_53, scan_accepted, found, found_read, many}

-- a refused sheet has code 51, 52 or 53
codes_point : Codes point_part
codes_point =
    codes_then (coordinate_line (ascii "x=")) (λ _. and_then (coordinate_line (ascii "y=")) (λ _. kit_line)) (codes_line (ascii "x=") (coordinate 1000000)) (λ _.
    codes_then (coordinate_line (ascii "y=")) (λ _. kit_line) (codes_line (ascii "y=") (coordinate 1000000)) (λ _. codes_line (ascii "kit=") bits))

codes_place : (i : ℕ) → Codes (place_part i)
unfolding place_part
codes_place i = codes_after (fixed (ascii "place=") (decimal i)) point_part (codes_line (ascii "place=") (word (decimal i))) codes_point

codes_query : Codes query_part
unfolding query_part
codes_query =
    codes_before (and_then want_line (λ _. budget_line)) (fixed (ascii "end=") (ascii "sheet"))
    (codes_then want_line (λ _. budget_line) (codes_line (ascii "want=") bits) (λ _. codes_line (ascii "budget=") (natural 4294967295))) (codes_line (ascii "end=") (word (ascii "sheet")))

codes_body : Codes body_part
codes_body =
    codes_then count_line (λ p. and_then (several place_part p 0) (λ _. query_part)) (codes_line (ascii "places=") (natural 4096)) (λ p.
    codes_then (several place_part p 0) (λ _. query_part) (codes_several place_part codes_place p 0) (λ _. codes_query))

pub sheet_codes : (s : List ℕ) (c l : ℕ) → read_sheet s ≡ fault c l → (51 ≤ c) × (c ≤ 53)
unfolding read_sheet sheet_part
sheet_codes s c l e =
    codes_all sheet_part (codes_viewed held counted (after (fixed (ascii "sheet=") (ascii "1")) body_part) (codes_after (fixed (ascii "sheet=") (ascii "1")) body_part (codes_line (ascii "sheet=") (word (ascii "1"))) codes_body)) s c l e

module _ (s : List ℕ) (r : Told) (e : r ≡ sheet_of (read_sheet s)) where
  result : (o : Outcome Held) → read_sheet s ≡ o → r ≡ sheet_of o
  result o f = e ∙ ap (λ (o : Outcome Held). sheet_of o) f

  -- a sheet that is not refused is accepted
  pub is_accepted : r.code ≡ 0 → (h : Held) × ((read_sheet s ≡ accepted h) × (r ≡ sheet_of (accepted h)))
  is_accepted z = go (read_sheet s) refl
    where
      go : (o : Outcome Held) → read_sheet s ≡ o → (h : Held) × ((read_sheet s ≡ accepted h) × (r ≡ sheet_of (accepted h)))
      go (fault c l) f = let q : r.code ≡ c = ap (λ (r : Told). r.code) (result (fault c l) f) in absurd (omega (arith, (sheet_codes s c l f).0))
      go (accepted h) f = (h, (f, result (accepted h) f))

-- a refusal is the outcome's
pub is_refused : (e : Refusal) (o : Outcome Held) → told (Err e) ≡ sheet_of o → o ≡ fault (number e.reason) e.at
is_refused e (fault c l) q = ap₂ (λ (c l : ℕ). fault c l) (sym (ap (λ (t : Told). t.code) q)) (sym (ap (λ (t : Told). t.at) q))
is_refused e (accepted h) q = absurd (numbered e.reason (ap (λ (t : Told). t.code) q))

-- and no column changes in it
pub unchanged : (o : Outcome Held) (c l : ℕ) (before : Table) → o ≡ fault c l → before ≡ columns_after o before
unchanged o c l before e = sym (ap (λ (o : Outcome Held). columns_after o before) e)

module _ (s : List ℕ) (h : Held) (e : read_sheet s ≡ accepted h) where
  pub fits : (room : ℕ) → places h.table ≤ room → within room (read_sheet s) ≡ accepted h
  fits room l = ap (within room) e ∙ go (dec_le (places h.table) room)
    where
      go : (d : Dec (places h.table ≤ room)) → elim d [ yes _ ↦ accepted h | no _ ↦ fault 54 0 ] ≡ accepted h
      go (yes _) = refl
      go (no n) = absurd (n l)

  no_fault : (c l : ℕ) → read_sheet s ≡ fault c l → ⊥
  no_fault c l f = let q : accepted h ≡ fault c l = sym e ∙ f in let z : ◌≡◌ {A = ℕ} 0 1 = cc in omega arith

  -- all parts of an accepted sheet read well
  pub head_fine : Fine (head_part.read 1 s)
  head_fine = go (head_part.read 1 s) refl
    where
      go : (g : Got ℕ) → head_part.read 1 s ≡ g → Fine g
      go (refused c l) f = no_fault c l (scan_1 s c l f)
      go (got p r) f = tt

  module _ (p : ℕ) (r : List ℕ) (f : head_part.read 1 s ≡ got p r) where
    -- the places that are read are those that the sheet holds
    pub record Stand : Type 0 where
      pub list : List Place
      pub rest : List ℕ
      pub read : (several place_part p 0).read 3 r ≡ got list rest
      pub table : h.table ≡ columns list
      pub many : places h.table ≡ p

    stand : (r2 : List ℕ) → passed ((several place_part p 0).read 3 r) ≡ got tt r2 → Stand
    stand r2 g = go (query_part.read (3 + 4 * p) r2) refl
      where
        l : List Place
        l = found s p r f r2 g

        of_table : h.table ≡ columns l → Stand
        of_table t = record { list = l; rest = r2; read = found_read s p r f r2 g; table = t; many = ap (λ (t : Table). places t) t ∙ length-map l x_of ∙ many s p r f r2 g }

        go : (k : Got (ℕ × ℕ)) → query_part.read (3 + 4 * p) r2 ≡ k → Stand
        go (refused c m) q = absurd (no_fault c m (scan_3 s p r f r2 g c m q))
        go (got w []) q =
            let a : accepted h ≡ accepted (held (p, (l, w))) = sym e ∙ scan_accepted s p r f r2 g w [] q refl in
            let b : h ≡ held (p, (l, w)) = cc in
            of_table (ap (λ (h : Held). h.table) b)
        go (got w (c ∷ t)) q = absurd (no_fault 53 (6 + 4 * p) (scan_53 s p r f r2 g w (c ∷ t) q c t refl))

    pub stands : Stand
    stands = go (passed ((several place_part p 0).read 3 r)) refl
      where
        go : (k : Got (Unit {0})) → passed ((several place_part p 0).read 3 r) ≡ k → Stand
        go (refused c l) g = absurd (no_fault c l (scan_2 s p r f c l g))
        go (got u r2) g = stand r2 g

    -- and the columns have them
    module _ {A : Type 0} (of : Place → A) (col : Table → List A) (same : (l : List Place) → map of l ≡ col (columns l)) (x x' : List A) (q : stored of ((several place_part p 0).read 3 r) x x') where
      column_holds : x' ≡ over (col h.table) x
      column_holds =
          subst (λ (g : Got (List Place)). stored of g x x') stands.read q
          ∙ ap (λ (u : List A). over u x) (same stands.list ∙ ap col (sym stands.table))

      pub column : (room : ℕ) → places h.table ≤ room → x' ≡ column_after (λ h. col h.table) (within room (read_sheet s)) x
      column room enough = column_holds ∙ sym (ap (λ (o : Outcome Held). column_after (λ h. col h.table) o x) (fits room enough))

-- the same of columns that nobody looks at after a refusal
pub taken : {A : Type 0} (s : List ℕ) (p : ℕ) (r : List ℕ) → head_part.read 1 s ≡ got p r → (of : Place → A) (col : Table → List A) → ((l : List Place) → map of l ≡ col (columns l)) →
    (x x' : List A) → stored of ((several place_part p 0).read 3 r) x x' → column_taken (λ h. col h.table) (read_sheet s) x x'
taken s p r f of col same x x' q = go (read_sheet s) refl
  where
    go : (o : Outcome Held) → read_sheet s ≡ o → column_taken (λ h. col h.table) o x x'
    go (fault c l) e = tt
    go (accepted h) e = column_holds s h e p r f of col same x x' q

pub not_taken : {A : Type 0} (o : Outcome Held) (c l : ℕ) → o ≡ fault c l → (f : Held → List A) (x x' : List A) → column_taken f o x x'
not_taken o c l e f x x' = subst (λ (o : Outcome Held). column_taken f o x x') (sym e) tt

-- both round trips, through lent columns with room enough
pub within_written : (h : Held) → Writable h → (room : ℕ) → places h.table ≤ room → within room (read_sheet (sheet_bytes h)) ≡ accepted h
within_written h w room l = fits (sheet_bytes h) h (read_written h w) room l

pub written_within : (s : List ℕ) (room : ℕ) (h : Held) → within room (read_sheet s) ≡ accepted h → Writable h × (sheet_bytes h ≡ s)
written_within s room h e = go (read_sheet s) refl
  where
    go : (o : Outcome Held) → read_sheet s ≡ o → Writable h × (sheet_bytes h ≡ s)
    go (fault c l) f = absurd (let q : fault c l ≡ accepted h = sym (ap (within room) f) ∙ e in let z : ◌≡◌ {A = ℕ} 0 1 = cc in omega arith)
    go (accepted g) f = in_room (dec_le (places g.table) room) (sym (ap (within room) f) ∙ e)
      where
        in_room : (d : Dec (places g.table ≤ room)) → elim d [ yes _ ↦ accepted g | no _ ↦ fault 54 0 ] ≡ accepted h → Writable h × (sheet_bytes h ≡ s)
        in_room (yes _) q = let k : g ≡ h = cc in written_read s h (f ∙ ap accepted k)
        in_room (no _) q = absurd (let z : ◌≡◌ {A = ℕ} 0 1 = cc in omega arith)

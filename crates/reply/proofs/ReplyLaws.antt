-- The program's answer by cases.
-- Assumes nothing.
use mathlib.Core.Path.{◌≡◌, refl, sym, ap, subst, ◌∙◌}
use mathlib.Core.List.{List}
use Prim.Native.Nat.{ℕ, ◌+◌, ◌≤◌, ◌<◌}
use native.Mathlib.Decide.{dec_le}
use native.Mathlib.Omega.{arith}
use lib.IntN.{ℤ}
use lib.ListN.{length, take, drop, length-append}
use lib.Seq.{take_at}
use Rattle.table.specs.Table.{Table, table, places, Valid}
use Rattle.table.proofs.TableLaws.{valid_even}
use Rattle.levels.specs.Built.{built}
use Rattle.found.specs.Search.{refused, searched}
use Rattle.found.specs.declared.Found.{Found}
use Rattle.lines.specs.Part.{Outcome, fault, accepted}
use Rattle.rows.specs.Sheet.{Held, read_sheet}
use Rattle.rows.proofs.SheetLaws.{written_read}
use Rattle.scan.specs.Lent.{over}
use Rattle.scan.specs.Read.{Told, sheet_of, column_taken}
use Rattle.sheet.proofs.ReadingLaws.{is_accepted}
use Rattle.report.specs.Answer.{answer_lines}
use Rattle.reply.specs.Reply.{most, printed_for, printed}

pub printed_long : (s : List ℕ) → most < length s → answer_lines (refused 55 0) 0 ≡ printed s
unfolding printed
printed_long s l = go (dec_le (length s) most)
  where
    go : (d : Dec (length s ≤ most)) → answer_lines (refused 55 0) 0 ≡ elim d [ yes _ ↦ printed_for (read_sheet s) | no _ ↦ answer_lines (refused 55 0) 0 ]
    go (yes k) = absurd (omega arith)
    go (no _) = refl

pub printed_sheet : (s : List ℕ) → length s ≤ most → printed_for (read_sheet s) ≡ printed s
unfolding printed
printed_sheet s l = go (dec_le (length s) most)
  where
    go : (d : Dec (length s ≤ most)) → printed_for (read_sheet s) ≡ elim d [ yes _ ↦ printed_for (read_sheet s) | no _ ↦ answer_lines (refused 55 0) 0 ]
    go (yes _) = refl
    go (no k) = absurd (omega arith)

-- what a sheet holds is a valid table
valid_held : (s : List ℕ) (h : Held) → read_sheet s ≡ accepted h → Valid h.table
valid_held s h e = (written_read s h e).0.valid

-- a column that holds l at its start, n values
pub record Holds {A : Type 0} (n : ℕ) (column l : List A) : Type 0 where
  pub long : n ≤ length column
  pub start : take n column ≡ l

filled : {A : Type 0} {n : ℕ} (l before : List A) {column : List A} → column ≡ over l before → length l ≡ n → Holds n column l
filled {n = n} l before {column} e k =
    let size : length column ≡ length l + length (drop (length l) before) = ap length e ∙ length-append l (drop (length l) before) in
    record { long = omega arith; start = ap (take n) e ∙ take_at l (drop (length l) before) n k }

-- what the columns hold once a sheet is accepted
pub record Took (s : List ℕ) (r : Told) (x' y' : List ℤ) (kit' : List ℕ) : Type 0 where
  pub held : Held
  pub is : read_sheet s ≡ accepted held
  pub result : r ≡ sheet_of (accepted held)
  pub valid : Valid held.table
  pub x : Holds r.places x' held.table.x
  pub y : Holds r.places y' held.table.y
  pub kit : Holds r.places kit' held.table.kit

module _ {s : List ℕ} {r : Told} {x y : List ℤ} {kit : List ℕ} (k : Took s r x y kit) where
  pub read_table : table (take r.places x) (take r.places y) (take r.places kit) ≡ k.held.table
  read_table = rw (k.x.start, k.y.start, k.kit.start)

  pub reply_found : (f : Found) → let t = table (take r.places x) (take r.places y) (take r.places kit) in f ≡ searched t (built t) r.want r.budget → answer_lines f r.want ≡ printed_for (read_sheet s)
  reply_found f e =
      ap (λ (f : Found). answer_lines f r.want) (e ∙ ap (λ (t : Table). searched t (built t) r.want r.budget) read_table)
      ∙ ap (λ (q : Told). answer_lines (searched k.held.table (built k.held.table) q.want q.budget) q.want) k.result
      ∙ sym (ap printed_for k.is)

module _ (s : List ℕ) (r : Told) (is : r ≡ sheet_of (read_sheet s)) where
  -- a sheet that is refused
  pub reply_refused : (r.code ≡ 0 → ⊥) → answer_lines (refused r.code r.at) 0 ≡ printed_for (read_sheet s)
  reply_refused n = go (read_sheet s) is
    where
      go : (o : Outcome Held) → r ≡ sheet_of o → answer_lines (refused r.code r.at) 0 ≡ printed_for o
      go (fault c l) e = ap (λ (q : Told). answer_lines (refused q.code q.at) 0) e
      go (accepted h) e = absurd (n (ap (λ (q : Told). q.code) e))

  -- a sheet that is accepted
  pub took : r.code ≡ 0 → (x x' y y' : List ℤ) (kit kit' : List ℕ) → column_taken (λ h. h.table.x) (read_sheet s) x x' →
      column_taken (λ h. h.table.y) (read_sheet s) y y' → column_taken (λ h. h.table.kit) (read_sheet s) kit kit' → Took s r x' y' kit'
  took z x x' y y' kit kit' e f g =
      let a = is_accepted s r is z in
      let h = a.0 in
      let n : r.places ≡ places h.table = ap (λ (q : Told). q.places) a.1.1 in
      let even = valid_even (valid_held s h a.1.0) in
      record {
        held = h;
        is = a.1.0;
        result = a.1.1;
        valid = valid_held s h a.1.0;
        x = filled h.table.x x (subst (λ (o : Outcome Held). column_taken (λ h. h.table.x) o x x') a.1.0 e) (sym n);
        y = filled h.table.y y (subst (λ (o : Outcome Held). column_taken (λ h. h.table.y) o y y') a.1.0 f) (even.y ∙ sym n);
        kit = filled h.table.kit kit (subst (λ (o : Outcome Held). column_taken (λ h. h.table.kit) o kit kit') a.1.0 g) (even.kit ∙ sym n);
      }

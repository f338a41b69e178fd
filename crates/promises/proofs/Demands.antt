-- The three demands on the library, and what the program prints, over the definitions that the contracts cite.
-- Assumes nothing.
use mathlib.Core.Path.{◌≡◌, refl, sym, ap, subst, ◌∙◌}
use mathlib.Core.Bool.{true}
use mathlib.Core.List.{List, [], ◌∷◌, Memᴰ}
use mathlib.Core.Logic.{◌↔◌, ◌⊎◌, inl, inr}
use Prim.Native.Nat.{ℕ, ◌+◌, ◌*◌, ◌≤◌, ◌<◌}
use native.Mathlib.Omega.{arith}
use lib.IntN.{ℤ}
use lib.ListN.{length, get_or}
use Rattle.plane.specs.Root.{Root}
use Rattle.verdict.specs.Rules.{Rule, AllHold, verdict, says, Verdict}
use Rattle.verdict.proofs.RuleLaws.{code_zero, none_broken, all_hold}
use Rattle.kit.specs.Kit.{held, kinds, padded}
use Rattle.kit.proofs.KindLaws.{kinds_member, kinds_ascending}
use Rattle.table.specs.Table.{Table, places, Valid}
use Rattle.tree.specs.Tree.{Tree}
use Rattle.tree.specs.Rules.{check_rules}
use Rattle.tree.specs.declared.Lengths.{Lengths}
use Rattle.tree.proofs.TreeLaws.{Meets, meets_of, of_meets}
use Rattle.levels.specs.Built.{built}
use Rattle.build.specs.Room.{build_rules, written_over}
use Rattle.build.proofs.PassLaws.{built_verdict}
use Rattle.closest.specs.Group.{Covers, diameter}
use Rattle.found.specs.Search.{search_rules, refused, searched}
use Rattle.found.specs.declared.Found.{Found}
use Rattle.search.proofs.DemandLaws.{diameter_le, code_none}
use Rattle.lines.specs.Part.{Outcome, accepted}
use Rattle.rows.specs.Sheet.{Held, Writable, sheet_bytes, read_sheet, asked}
use Rattle.rows.proofs.SizeLaws.{bytes_enough}
use Rattle.sheet.specs.Write.{write_rules}
use Rattle.scan.specs.Read.{reading, room_in, sheet_of}
use Rattle.report.specs.Distance.{root_of}
use Rattle.report.proofs.RootLaws.{root_of_lem}
use Rattle.reply.specs.Reply.{printed}
use Rattle.promises.specs.Reports.{Reports, codes_of}
use Rattle.promises.specs.Answers.{between, Closest, NoGroup, steps_of, known_after, spent, Ended, Ends, is_none, is_spent, is_found}
use Rattle.promises.specs.Sheets.{IsSheet, ReadsAs, no_sheet, no_room, a_sheet}
use Rattle.promises.specs.Prints.{Answers, Prints, too_long, not_read, was_read}
use Rattle.promises.proofs.ReportLaws.{reports, reports_only, codes}
use Rattle.promises.proofs.DiameterLaws.{diameter_above, diameter_least}
use Rattle.promises.proofs.EndLaws.{ends, ended, of_ended, fault, all_codes, when_found, when_none, when_spent, spent_when}
use Rattle.promises.proofs.ReadLaws.{is_sheet, sheet_is, reads_as, short_buffer, buffer_short}
use Rattle.promises.proofs.PrintLaws.{our_tree, prints}
use Rattle.promises.proofs.OneLaws.{one_closest, one_held, one_end, one_reading, one_print}

-- ==== Demand 1: each refusal exactly when stated

-- of a list of rules the first broken one is reported, at the lowest place where it breaks, and nothing else
pub verdict_reports : (rs : List Rule) → Reports rs (verdict rs)
verdict_reports = reports

pub verdict_only : {rs : List Rule} {v : Verdict} → Reports rs v → v ≡ verdict rs
verdict_only = reports_only

-- the check reports 0 exactly where every rule of table and tree holds, and else 11 to 26
module _ (t : Table) (tree : Tree) where
  pub check_passes : ((verdict (check_rules t tree)).code ≡ 0) ↔ AllHold (check_rules t tree)
  check_passes = code_zero (check_rules t tree)

  pub check_codes : Memᴰ (verdict (check_rules t tree)).code (0 ∷ 11 ∷ 12 ∷ 21 ∷ 22 ∷ 22 ∷ 23 ∷ 24 ∷ 25 ∷ 26 ∷ [])
  unfolding codes_of
  check_codes = codes (check_rules t tree)

-- the builder reports 0 exactly where the rules of the table hold and the lent columns have room, and else 11, 12 or 41
module _ (t : Table) (lent : Lengths) where
  pub build_passes : ((verdict (build_rules t lent)).code ≡ 0) ↔ AllHold (build_rules t lent)
  build_passes = code_zero (build_rules t lent)

  pub build_codes : Memᴰ (verdict (build_rules t lent)).code (0 ∷ 11 ∷ 12 ∷ 41 ∷ [])
  unfolding codes_of
  build_codes = codes (build_rules t lent)

-- the writer reports 0 exactly where the rules of the table hold and the buffer has room, and else 11, 12 or 54
module _ (h : Held) (room : ℕ) where
  pub write_passes : ((verdict (write_rules h room)).code ≡ 0) ↔ AllHold (write_rules h room)
  write_passes = code_zero (write_rules h room)

  pub write_codes : Memᴰ (verdict (write_rules h room)).code (0 ∷ 11 ∷ 12 ∷ 54 ∷ [])
  unfolding codes_of
  write_codes = codes (write_rules h room)

  -- 54 exactly where the table is valid and the buffer is shorter than the sheet
  pub write_54 : (verdict (write_rules h room) ≡ says 54 0) ↔ (Valid h.table × (room < length (sheet_bytes h)))
  write_54 = (short_buffer h room, λ w. buffer_short h room w.0 w.1)

-- the search is found, none or spent exactly where every rule of want, table and tree holds; else it reports the broken rule; 33 is never met
module _ (t : Table) (tree : Tree) (want allowance : ℕ) where
  pub search_passes : Ended (searched t tree want allowance).code ↔ AllHold (search_rules t tree want)
  search_passes = (of_ended t tree want allowance, ended t tree want allowance)

  pub search_refusal : let v = verdict (search_rules t tree want) in (v.code ≡ 0 → ⊥) → searched t tree want allowance ≡ refused v.code v.at
  search_refusal = fault t tree want allowance

  pub search_codes : Memᴰ (searched t tree want allowance).code (0 ∷ 1 ∷ 2 ∷ 11 ∷ 12 ∷ 21 ∷ 22 ∷ 22 ∷ 23 ∷ 24 ∷ 25 ∷ 26 ∷ 31 ∷ 32 ∷ [])
  search_codes = all_codes t tree want allowance

-- reading ends in one of three ways: 51 to 53 where the bytes are no sheet, 54 where the columns have no room for it, else what it holds
module _ (s : List ℕ) (x y : List ℤ) (kit : List ℕ) where
  pub read_ends : ReadsAs s (room_in x y kit) (reading s x y kit)
  read_ends = reads_as s (room_in x y kit)

  pub read_one : {o : Outcome Held} → ReadsAs s (room_in x y kit) o → o ≡ reading s x y kit
  read_one e = one_reading s (room_in x y kit) _ _ e read_ends

  pub read_codes : let c = (sheet_of (reading s x y kit)).code in (c ≡ 0) ⊎ ((51 ≤ c) × (c ≤ 54))
  read_codes = go read_ends
    where
      code : {o : Outcome Held} → reading s x y kit ≡ o → (sheet_of (reading s x y kit)).code ≡ (sheet_of o).code
      code e = ap (λ (o : Outcome Held). (sheet_of o).code) e

      go : ReadsAs s (room_in x y kit) (reading s x y kit) → let c = (sheet_of (reading s x y kit)).code in (c ≡ 0) ⊎ ((51 ≤ c) × (c ≤ 54))
      go (no_sheet c l _ a b _ e) = inr (omega (arith, code e), omega (arith, code e))
      go (no_room h _ _ e) = inr (omega (arith, code e), omega (arith, code e))
      go (a_sheet h _ _ e) = inl (code e)

-- ==== Demand 2: a group found is the answer, which is defined over the table alone; a sheet is what it says

-- the kinds of a want are those whose bit is set, in ascending order
pub wanted_kinds : (want k : ℕ) → Memᴰ k (kinds want) ↔ ((k < 64) × (held want k ≡ true))
wanted_kinds = kinds_member

pub wanted_ascend : (want i j : ℕ) → i < j → j < length (kinds want) → get_or (kinds want) i 0 < get_or (kinds want) j 0
wanted_ascend = kinds_ascending

-- a group's squared diameter is the largest squared distance of any two of its members: none is above it, and no less number has that
module _ (t : Table) (g : List ℕ) where
  pub diameter_most : (i j : ℕ) → i < length g → j < length g → between t (get_or g i 0) (get_or g j 0) ≤ diameter t g
  diameter_most = diameter_above t g

  pub diameter_tight : (d : ℕ) → ((i j : ℕ) → i < length g → j < length g → between t (get_or g i 0) (get_or g j 0) ≤ d) → diameter t g ≤ d
  diameter_tight d = diameter_least t d g

module _ (t : Table) (want : ℕ) where
  -- there is at most one answer
  pub closest_one : {g o : List ℕ} → Closest t want g → Closest t want o → g ≡ o
  closest_one = one_closest t want

  -- and where there is a group there is an answer
  pub closest_is : {o : List ℕ} → Valid t → 1 ≤ length (kinds want) → length (kinds want) ≤ 8 → Covers t (kinds want) o → (g : List ℕ) × Closest t want g
  closest_is {o} v one few c = go (ends t (built t) want (steps_of t (built t) want) (our_tree t want v one few))
    where
      go : Ends t (built t) want (steps_of t (built t) want) (searched t (built t) want (steps_of t (built t) want)) → (g : List ℕ) × Closest t want g
      go (is_none n _ _) = absurd (n o c)
      go (is_spent l _) = absurd (omega arith)
      go (is_found g a _ _) = (g, a)

  -- the distance shown for it is the greatest whole number whose square is not above its squared diameter
  pub distance_shown : {g : List ℕ} → Valid t → Closest t want g → Root (diameter t g) (root_of (diameter t g))
  distance_shown {g} v c = root_of_lem (diameter t g) (omega (arith, diameter_le v c.covers))

module _ (t : Table) (tree : Tree) (want allowance : ℕ) where
  abbrev r : Found
  r = searched t tree want allowance

  -- a group found covers the want and none is better, whatever was lent as the tree
  pub found_closest : r.code ≡ 0 → (g : List ℕ) × (Closest t want g × ((r.places ≡ padded g) × (r.squared ≡ diameter t g)))
  found_closest z = let f = when_found t tree want allowance z in (f.0, (f.1.0, (ap (λ (q : Found). q.places) f.1.1.1, ap (λ (q : Found). q.squared) f.1.1.1)))

  -- 'none' says that no group exists
  pub none_says : r.code ≡ 31 → NoGroup t want
  none_says z = (when_none t tree want allowance z).0

  -- and exactly then it is said, where nothing is refused
  pub none_exactly : AllHold (search_rules t tree want) → (r.code ≡ 31) ↔ NoGroup t want
  none_exactly h = code_none t tree want allowance h

-- bytes are accepted exactly where they are the sheet that is written for what they hold: what is written reads back the same, and what is accepted is written back byte for byte
pub sheet_exactly : (s : List ℕ) (h : Held) → (read_sheet s ≡ accepted h) ↔ IsSheet s h
sheet_exactly s h = (is_sheet s h, sheet_is s h)

-- so a sheet holds one thing
pub sheet_one : (s : List ℕ) (h o : Held) → IsSheet s h → IsSheet s o → h ≡ o
sheet_one = one_held

-- a valid table of p places has a sheet of at most 70 + 54 p bytes
pub sheet_size : (t : Table) (want budget : ℕ) → Valid t → budget ≤ 4294967295 → length (sheet_bytes (asked t want budget)) ≤ 70 + 54 * places t
sheet_size t want budget v = bytes_enough v want budget

-- ==== Demand 3: the tree is not trusted, and the walk is the one defined

-- the check passes a tree exactly where the table is valid and the tree meets every rule
pub check_exactly : (t : Table) (tree : Tree) → (verdict (check_rules t tree) ≡ says 0 0) ↔ (Valid t × Meets t tree)
check_exactly t tree = (
  λ e. let h = none_broken (check_rules t tree) (ap (λ (v : Verdict). v.code) e) in ((h.0, (h.1.0, tt)), meets_of t tree h.1.1),
  λ w. all_hold (check_rules t tree) (w.0.0, (w.0.1.0, of_meets t tree w.1)),
)

-- the builder's tree passes, whatever the lent columns held before
pub built_passes : (t : Table) → Valid t → (before : Tree) → verdict (check_rules t (written_over (built t) before)) ≡ says 0 0
built_passes = built_verdict

module _ (t : Table) (tree : Tree) (want allowance : ℕ) where
  abbrev q : Found
  q = searched t tree want allowance

  -- over any tree that passes, the search ends in one of three ways: none, spent with what the walk knows after as many steps as the allowance has, or the answer
  pub search_ends : AllHold (search_rules t tree want) → Ends t tree want allowance q
  search_ends = ends t tree want allowance

  -- and the way in which it ends says all of its answer
  pub search_one : AllHold (search_rules t tree want) → {o : Found} → Ends t tree want allowance o → o ≡ q
  search_one h e = one_end t tree want allowance _ _ e (search_ends h)

  -- a group found comes with the steps of the defined walk, which are within the allowance
  pub found_steps : q.code ≡ 0 → (q.steps ≡ steps_of t tree want) × (steps_of t tree want ≤ allowance)
  found_steps z = let f = when_found t tree want allowance z in (ap (λ (q : Found). q.steps) f.1.1.1, f.1.1.0)

  -- spent exactly where that walk needs more than the allowance
  pub spent_exactly : AllHold (search_rules t tree want) → (q.code ≡ 32) ↔ (allowance < steps_of t tree want)
  spent_exactly h = (λ z. (when_spent t tree want allowance z).0, spent_when t tree want allowance h)

  -- and what is named then is the best after exactly that many steps
  pub spent_names : q.code ≡ 32 → q ≡ spent t (known_after t tree want allowance) allowance
  spent_names z = (when_spent t tree want allowance z).1

-- two passing trees over the same table give the same group, where none is spent
module _ (t : Table) (tree tree' : Tree) (want allowance allowance' : ℕ) where
  abbrev a : Found
  a = searched t tree want allowance

  abbrev b : Found
  b = searched t tree' want allowance'

  pub same_group : a.code ≡ 0 → b.code ≡ 0 → (a.places ≡ b.places) × (a.squared ≡ b.squared)
  same_group y z =
      let f = found_closest t tree want allowance y in
      let g = found_closest t tree' want allowance' z in
      let e = closest_one t want f.1.0 g.1.0 in
      (f.1.1.0 ∙ ap padded e ∙ sym g.1.1.0, f.1.1.1 ∙ ap (diameter t) e ∙ sym g.1.1.1)

  pub same_none : AllHold (search_rules t tree' want) → a.code ≡ 31 → b.code ≡ 31
  same_none h z = (none_exactly t tree' want allowance' h).1 (none_says t tree want allowance z)

-- ==== The program

-- for every input: 55 where it is too long, the sheet's fault where it is no sheet, else the answer of demand 2 for the sheet's table, want and budget
pub program_prints : (s : List ℕ) → Prints s (printed s)
program_prints = prints

-- and that says all that it prints
pub program_one : (s : List ℕ) {p : List ℕ} → Prints s p → p ≡ printed s
program_one s e = one_print s _ _ e (prints s)

-- so for the sheet of a valid table, want and budget
pub program_answers : (h : Held) → Writable h → length (sheet_bytes h) ≤ 65536 → Answers h (printed (sheet_bytes h))
program_answers h w l = go (program_prints (sheet_bytes h))
  where
    is : IsSheet (sheet_bytes h) h
    is = record { writable = w; bytes = refl }

    go : Prints (sheet_bytes h) (printed (sheet_bytes h)) → Answers h (printed (sheet_bytes h))
    go (too_long m _) = absurd (omega arith)
    go (not_read _ _ _ n _ _) = absurd (n h is)
    go (was_read o _ i a) = subst (λ (o : Held). Answers o (printed (sheet_bytes h))) (sheet_one (sheet_bytes h) o h i is) a

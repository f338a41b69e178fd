-- The ways in which calls end leave one answer each.
-- Assumes nothing.
use mathlib.Core.Path.{◌≡◌, refl, sym, ap, subst, ◌∙◌}
use mathlib.Core.List.{List, []}
use mathlib.Core.Option.{some}
use Prim.Native.Nat.{ℕ, ◌<◌}
use native.Mathlib.Omega.{arith}
use lib.ListN.{length}
use Rattle.kit.specs.Kit.{kinds}
use Rattle.table.specs.Table.{Table, places}
use Rattle.tree.specs.Tree.{Tree}
use Rattle.levels.specs.Built.{built}
use Rattle.closest.proofs.AnswerLaws.{answer_unique}
use Rattle.found.specs.declared.Found.{Found}
use Rattle.lines.specs.Part.{Outcome, fault, accepted}
use Rattle.rows.specs.Sheet.{Held, read_sheet}
use Rattle.report.specs.Answer.{refused_lines, answer_lines}
use Rattle.promises.specs.Answers.{Closest, steps_of, known_after, found, Ends, is_none, is_spent, is_found}
use Rattle.promises.specs.Sheets.{IsSheet, ReadsAs, no_sheet, no_room, a_sheet}
use Rattle.promises.specs.Prints.{FewKinds, Answers, no_kind, many_kinds, prints_none, prints_spent, prints_found, Prints, too_long, not_read, was_read}
use Rattle.promises.proofs.EndLaws.{of_closest}
use Rattle.promises.proofs.ReadLaws.{sheet_is}
use Rattle.promises.proofs.PrintLaws.{none_lines, spent_lines, found_lines_lem}

-- there is at most one answer to a want
pub one_closest : (t : Table) (want : ℕ) {g o : List ℕ} → Closest t want g → Closest t want o → g ≡ o
one_closest t want {g} {o} c d = let e : some g ≡ some o = answer_unique t (kinds want) (some g) (some o) (of_closest c) (of_closest d) in cc

-- a sheet holds one thing
pub one_held : (s : List ℕ) (h o : Held) → IsSheet s h → IsSheet s o → h ≡ o
one_held s h o i j = let e : accepted h ≡ accepted o = sym (sheet_is s h i) ∙ sheet_is s o j in cc

-- a search ends in one way, with one answer
pub one_end : (t : Table) (tree : Tree) (want allowance : ℕ) (r q : Found) → Ends t tree want allowance r → Ends t tree want allowance q → r ≡ q
one_end t tree want allowance r q (is_none _ _ e) (is_none _ _ f) = e ∙ sym f
one_end t tree want allowance r q (is_none _ z _) (is_spent l _) = absurd (omega arith)
one_end t tree want allowance r q (is_none n _ _) (is_found g c _ _) = absurd (n g c.covers)
one_end t tree want allowance r q (is_spent l _) (is_none _ z _) = absurd (omega arith)
one_end t tree want allowance r q (is_spent _ e) (is_spent _ f) = e ∙ sym f
one_end t tree want allowance r q (is_spent l _) (is_found _ _ m _) = absurd (omega arith)
one_end t tree want allowance r q (is_found g c _ _) (is_none n _ _) = absurd (n g c.covers)
one_end t tree want allowance r q (is_found _ _ m _) (is_spent l _) = absurd (omega arith)
one_end t tree want allowance r q (is_found g c _ e) (is_found o d _ f) = e ∙ ap (λ (g : List ℕ). found t g (steps_of t tree want)) (one_closest t want c d) ∙ sym f

-- reading ends in one way
same_fault : (s : List ℕ) (c l c' l' : ℕ) → read_sheet s ≡ fault c l → read_sheet s ≡ fault c' l' → ◌≡◌ {A = Outcome Held} (fault c l) (fault c' l')
same_fault s c l c' l' e f = sym e ∙ f

-- the lines for a fault
abbrev lines_of : Outcome Held → List ℕ
lines_of (fault c l) = refused_lines c l
lines_of (accepted h) = []

pub one_reading : (s : List ℕ) (room : ℕ) (o p : Outcome Held) → ReadsAs s room o → ReadsAs s room p → o ≡ p
one_reading s room o p (no_sheet c l _ _ _ r e) (no_sheet c' l' _ _ _ q f) = e ∙ same_fault s c l c' l' r q ∙ sym f
one_reading s room o p (no_sheet _ _ n _ _ _ _) (no_room h i _ _) = absurd (n h i)
one_reading s room o p (no_sheet _ _ n _ _ _ _) (a_sheet h i _ _) = absurd (n h i)
one_reading s room o p (no_room h i _ _) (no_sheet _ _ n _ _ _ _) = absurd (n h i)
one_reading s room o p (no_room _ _ _ e) (no_room _ _ _ f) = e ∙ sym f
one_reading s room o p (no_room h i l _) (a_sheet k j m _) = absurd (omega (arith, ap (λ (u : Held). places u.table) (one_held s h k i j)))
one_reading s room o p (a_sheet h i _ _) (no_sheet _ _ n _ _ _ _) = absurd (n h i)
one_reading s room o p (a_sheet h i l _) (no_room k j m _) = absurd (omega (arith, ap (λ (u : Held). places u.table) (one_held s h k i j)))
one_reading s room o p (a_sheet h i _ e) (a_sheet k j _ f) = e ∙ ap accepted (one_held s h k i j) ∙ sym f

-- what is printed for a sheet, by how many kinds it wants
data Wants (h : Held) (p : List ℕ) : Type 0 where
  wants_none : length (kinds h.want) ≡ 0 → p ≡ refused_lines 1 0 → Wants h p
  wants_many : 8 < length (kinds h.want) → p ≡ refused_lines 2 0 → Wants h p
  wants_few : FewKinds h → (r : Found) → Ends h.table (built h.table) h.want h.budget r → p ≡ answer_lines r h.want → Wants h p

wants : (h : Held) (p : List ℕ) → Answers h p → Wants h p
wants h p (no_kind z e) = wants_none z e
wants h p (many_kinds l e) = wants_many l e
wants h p (prints_none k n z e) = wants_few k _ (is_none n z refl) (e ∙ sym (none_lines h.want))
wants h p (prints_spent k l e) = wants_few k _ (is_spent l refl) (e ∙ sym (spent_lines h.table (known_after h.table (built h.table) h.want h.budget) h.budget h.want))
wants h p (prints_found k g c l e) = wants_few k _ (is_found g c l refl) (e ∙ sym (found_lines_lem h.table g _ h.want c.covers.size))

one_want : (h : Held) (p q : List ℕ) → Wants h p → Wants h q → p ≡ q
one_want h p q (wants_none _ e) (wants_none _ f) = e ∙ sym f
one_want h p q (wants_none z _) (wants_many l _) = absurd (omega arith)
one_want h p q (wants_none z _) (wants_few k _ _ _) = absurd (omega (arith, k.one))
one_want h p q (wants_many l _) (wants_none z _) = absurd (omega arith)
one_want h p q (wants_many _ e) (wants_many _ f) = e ∙ sym f
one_want h p q (wants_many l _) (wants_few k _ _ _) = absurd (omega (arith, k.few))
one_want h p q (wants_few k _ _ _) (wants_none z _) = absurd (omega (arith, k.one))
one_want h p q (wants_few k _ _ _) (wants_many l _) = absurd (omega (arith, k.few))
one_want h p q (wants_few _ r a e) (wants_few _ o b f) = e ∙ ap (λ (r : Found). answer_lines r h.want) (one_end h.table (built h.table) h.want h.budget r o a b) ∙ sym f

-- the program prints one thing
pub one_print : (s p q : List ℕ) → Prints s p → Prints s q → p ≡ q
one_print s p q (too_long _ e) (too_long _ f) = e ∙ sym f
one_print s p q (too_long l _) (not_read _ _ m _ _ _) = absurd (omega arith)
one_print s p q (too_long l _) (was_read _ m _ _) = absurd (omega arith)
one_print s p q (not_read _ _ m _ _ _) (too_long l _) = absurd (omega arith)
one_print s p q (not_read c l _ _ r e) (not_read c' l' _ _ o f) = e ∙ ap (λ (o : Outcome Held). lines_of o) (same_fault s c l c' l' r o) ∙ sym f
one_print s p q (not_read _ _ _ n _ _) (was_read h _ i _) = absurd (n h i)
one_print s p q (was_read _ m _ _) (too_long l _) = absurd (omega arith)
one_print s p q (was_read h _ i _) (not_read _ _ _ n _ _) = absurd (n h i)
one_print s p q (was_read h _ i a) (was_read k _ j b) = one_want h p q (wants h p a) (wants h q (subst (λ (k : Held). Answers k q) (one_held s k h j i) b))

-- What the program prints, by what its input is.
-- Assumes nothing.
use mathlib.Core.Path.{◌≡◌, refl, sym, ap, subst, ◌∙◌}
use mathlib.Core.List.{List, [], ◌∷◌, ◌++◌}
use mathlib.Core.Option.{Option, none, some}
use Prim.Native.Nat.{ℕ, ◌-◌, ◌≤◌, ◌<◌}
use native.Mathlib.Decide.{dec_le, ℕ_discrete}
use native.Mathlib.Omega.{arith}
use lib.ListN.{length, replicate}
use Rattle.verdict.specs.Rules.{AllHold, says}
use Rattle.verdict.proofs.RuleLaws.{breaks_at, holds_on}
use Rattle.kit.specs.Kit.{kinds, padded}
use Rattle.table.specs.Table.{Table, Valid}
use Rattle.tree.specs.Tree.{Tree}
use Rattle.levels.specs.Built.{built}
use Rattle.closest.specs.Group.{diameter}
use Rattle.found.specs.Search.{rule1, rule2, search_rules, refused, searched}
use Rattle.found.specs.declared.Found.{Found}
use Rattle.found.proofs.SearchLaws.{searched_fault}
use Rattle.lines.specs.Text.{ascii}
use Rattle.lines.specs.Part.{Outcome, fault, accepted}
use Rattle.rows.specs.Sheet.{Held, read_sheet}
use Rattle.sheet.proofs.ReadingLaws.{sheet_codes}
use Rattle.report.specs.Answer.{group_lines, measure_lines, word_line, end_line, need_lines, found_lines, stopped_lines, refused_lines, answer_lines}
use Rattle.answer.proofs.AnswerLaws.{of_found, of_none, of_spent, of_refused}
use Rattle.reply.specs.Reply.{printed_for, printed}
use Rattle.reply.proofs.ReplyLaws.{printed_long, printed_sheet}
use Rattle.own.proofs.BuiltLaws.{built_sound}
use Rattle.promises.specs.Answers.{spent, found, Ends, is_none, is_spent, is_found, known_after, steps_of}
use Rattle.promises.specs.Prints.{FewKinds, Answers, no_kind, many_kinds, prints_none, prints_spent, prints_found, Prints, too_long, not_read, was_read}
use Rattle.promises.proofs.EndLaws.{ends}
use Rattle.promises.proofs.ReadLaws.{is_sheet, no_sheet_lem}

-- a refusal that is neither found, none nor spent
refused_lines_lem : (code at want : ℕ) → (code ≡ 0 → ⊥) → (code ≡ 31 → ⊥) → (code ≡ 32 → ⊥) → answer_lines (refused code at) want ≡ refused_lines code at
refused_lines_lem code at want n m l = sym (of_refused (refused code at) want n m l)

-- the unused place numbers are not printed
group_only : (ks g rest : List ℕ) → length g ≡ length ks → group_lines ks (g ++ rest) ≡ group_lines ks g
unfolding group_lines
group_only [] [] rest e = refl
group_only [] (p ∷ g) rest e = absurd (omega arith)
group_only (k ∷ ks) [] rest e = absurd (omega arith)
group_only (k ∷ ks) (p ∷ g) rest e = ap (λ (l : List ℕ). need_lines k p ++ l) (group_only ks g rest (omega arith))

pub found_lines_lem : (t : Table) (g : List ℕ) (steps want : ℕ) → length g ≡ length (kinds want) → answer_lines (found t g steps) want ≡ found_lines (diameter t g) steps (kinds want) g
unfolding found_lines padded
found_lines_lem t g steps want e =
    sym (of_found (found t g steps) want refl)
    ∙ ap (λ (l : List ℕ). word_line "answer=" (ascii "found") ++ (measure_lines (diameter t g) steps ++ (l ++ end_line))) (group_only (kinds want) g (replicate (8 - length g) 0) e)

pub spent_lines : (t : Table) (k : Option (List ℕ)) (steps want : ℕ) → answer_lines (spent t k steps) want ≡ stopped_lines (ascii "spent") steps
spent_lines t none steps want = sym (of_spent (spent t none steps) want (λ e. absurd (omega arith)) (λ e. absurd (omega arith)) refl)
spent_lines t (some g) steps want = sym (of_spent (spent t (some g) steps) want (λ e. absurd (omega arith)) (λ e. absurd (omega arith)) refl)

pub none_lines : (want : ℕ) → answer_lines (refused 31 0) want ≡ stopped_lines (ascii "none") 0
none_lines want = sym (of_none (refused 31 0) want (λ e. absurd (omega arith)) refl)

-- a want of no kind, or of more than eight
no_kinds : (t : Table) (tree : Tree) (want allowance : ℕ) → length (kinds want) ≡ 0 → searched t tree want allowance ≡ refused 1 0
no_kinds t tree want allowance e =
    sym (searched_fault t tree want allowance {v = says 1 0} (breaks_at (rule1 want) refl _ 0 (omega arith) (λ j l. absurd (omega arith)) (λ h. omega arith)) (λ e. absurd (omega arith)))

many_kinds_lem : (t : Table) (tree : Tree) (want allowance : ℕ) → 8 < length (kinds want) → searched t tree want allowance ≡ refused 2 0
many_kinds_lem t tree want allowance e =
    sym (searched_fault t tree want allowance {v = says 2 0}
    (breaks_at (rule2 want) refl _ 0 (omega arith) (λ j l. absurd (omega arith)) (λ h. omega arith) ∙ holds_on (rule1 want) refl _ (λ j l. omega arith))
    (λ e. absurd (omega arith)))

-- no rule refuses our tree
pub our_tree : (t : Table) (want : ℕ) → Valid t → 1 ≤ length (kinds want) → length (kinds want) ≤ 8 → AllHold (search_rules t (built t) want)
our_tree t want v one few = (λ _ _ _. one, (λ _ _ _. few, (v.0, (v.1.0, (built_sound t v).passes))))

-- the answer to a sheet
answers : (h : Held) → Valid h.table → Answers h (printed_for (accepted h))
answers h v = go (ℕ_discrete (length (kinds h.want)) 0) (dec_le (length (kinds h.want)) 8)
  where
    r : Found
    r = searched h.table (built h.table) h.want h.budget

    lines : {f : Found} → r ≡ f → answer_lines r h.want ≡ answer_lines f h.want
    lines e = ap (λ (f : Found). answer_lines f h.want) e

    by : FewKinds h → Ends h.table (built h.table) h.want h.budget r → Answers h (answer_lines r h.want)
    by k (is_none n z e) = prints_none k n z (lines e ∙ none_lines h.want)
    by k (is_spent l e) = prints_spent k l (lines e ∙ spent_lines h.table (known_after h.table (built h.table) h.want h.budget) h.budget h.want)
    by k (is_found g c l e) = prints_found k g c l (lines e ∙ found_lines_lem h.table g (steps_of h.table (built h.table) h.want) h.want c.covers.size)

    go : Dec (length (kinds h.want) ≡ 0) → Dec (length (kinds h.want) ≤ 8) → Answers h (answer_lines r h.want)
    go (yes z) d = no_kind z (lines (no_kinds h.table (built h.table) h.want h.budget z) ∙ refused_lines_lem 1 0 h.want (λ e. absurd (omega arith)) (λ e. absurd (omega arith)) (λ e. absurd (omega arith)))
    go (no n) (no m) = let l : 8 < length (kinds h.want) = omega arith in many_kinds l (lines (many_kinds_lem h.table (built h.table) h.want h.budget l) ∙ refused_lines_lem 2 0 h.want (λ e. absurd (omega arith)) (λ e. absurd (omega arith)) (λ e. absurd (omega arith)))
    go (no n) (yes few) = by (record { one = omega arith; few = few }) (ends h.table (built h.table) h.want h.budget (our_tree h.table h.want v (omega arith) few))

-- what is printed for any bytes
pub prints : (s : List ℕ) → Prints s (printed s)
prints s = go (dec_le (length s) 65536) (read_sheet s) refl
  where
    go : Dec (length s ≤ 65536) → (o : Outcome Held) → read_sheet s ≡ o → Prints s (printed s)
    go (no n) o e = let l : 65536 < length s = omega arith in too_long l (sym (printed_long s l) ∙ refused_lines_lem 55 0 0 (λ e. absurd (omega arith)) (λ e. absurd (omega arith)) (λ e. absurd (omega arith)))
    go (yes l) (fault c at) e =
        let b = sheet_codes s c at e in
        not_read c at l (no_sheet_lem s c at e) e (sym (printed_sheet s l) ∙ ap (λ (o : Outcome Held). printed_for o) e ∙ refused_lines_lem c at 0 (λ z. absurd (omega (arith, b.0))) (λ z. absurd (omega (arith, b.0))) (λ z. absurd (omega (arith, b.0))))
    go (yes l) (accepted h) e =
        let i = is_sheet s h e in
        was_read h l i (subst (Answers h) (sym (ap (λ (o : Outcome Held). printed_for o) e) ∙ printed_sheet s l) (answers h i.writable.valid))

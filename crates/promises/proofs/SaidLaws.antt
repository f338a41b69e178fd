-- A result is known by what it says.
-- Assumes nothing.
use mathlib.Core.Path.{◌≡◌, refl, sym, ap, ap₂, ◌∙◌}
use Prim.Native.Nat.{ℕ}
use Rattle.std.proofs.Common.{Result, Ok, Err}
use Rattle.plane.specs.Plane.{Measured, told}
use Rattle.verdict.specs.Rules.{Verdict, said, says}
use Rattle.verdict.specs.Numbers.{number}
use Rattle.verdict.specs.declared.Reason.{Reason}
use Rattle.verdict.specs.declared.Refusal.{Refusal}
use Rattle.verdict.proofs.SaidLaws.{numbered}
use Rattle.readers.proofs.ReadLaws.{number_one}
use Rattle.build.specs.declared.Built.{Built}
use Rattle.build.specs.Lent.{counts}
use Rattle.sheet.specs.Write.{written}

abbrev code_of : Verdict → ℕ
code_of v = v.code

-- two refusals that say the same are one
refusal_one : (e f : Refusal) → says (number e.reason) e.at ≡ says (number f.reason) f.at → e ≡ f
refusal_one e f v = ap₂ (λ (r : Reason) (k : ℕ). record { reason = r; at = k }) (number_one e.reason f.reason (ap code_of v)) (ap (λ (w : Verdict). w.at) v)

-- two results that say the same are equal, if their values are known by what f tells of them
pub said_one : {A B : Type 0} (f : Result A Refusal → B) → ((x y : A) → f (Ok x) ≡ f (Ok y) → x ≡ y) → (r q : Result A Refusal) → said r ≡ said q → f r ≡ f q → r ≡ q
said_one f known (Ok x) (Ok y) v w = ap Ok (known x y w)
said_one f known (Ok x) (Err e) v w = absurd (numbered e.reason (sym (ap code_of v)))
said_one f known (Err e) (Ok y) v w = absurd (numbered e.reason (ap code_of v))
said_one f known (Err e) (Err g) v w = ap Err (refusal_one e g v)

-- a check, which has no value
pub check_one : (r q : Result (Unit {0}) Refusal) → said r ≡ said q → r ≡ q
check_one r q v = said_one said (λ x y e. refl) r q v v

-- the builder, by its counts
pub built_one : (r q : Result Built Refusal) → said r ≡ said q → counts r ≡ counts q → r ≡ q
built_one = said_one counts (λ x y e. ap (λ (z : ℕ × ℕ). record { nodes = z.0; listed = z.1 }) e)

-- the writer, by its byte count
pub written_one : (r q : Result ℕ Refusal) → said r ≡ said q → written r ≡ written q → r ≡ q
written_one = said_one written (λ x y e. e)

-- the squared distance, by all that is told of it
told_said : (r : Result ℕ Refusal) → says (told r).code (told r).at ≡ said r
told_said (Ok _) = refl
told_said (Err _) = refl

pub told_one : (r q : Result ℕ Refusal) → told r ≡ told q → r ≡ q
told_one r q e =
    let v = sym (told_said r) ∙ ap (λ (m : Measured). says m.code m.at) e ∙ told_said q in
    said_one (λ r. (told r).squared) (λ x y e. e) r q v (ap (λ (m : Measured). m.squared) e)

-- What is told of a refusal that is handed on; and that what is told settles the result.
-- Assumes nothing.
use Prim.Native.Nat.{ℕ, ◌≤◌}
use mathlib.Core.Path.{◌≡◌, ap, ap₂, sym, ◌∙◌, subst}
use mathlib.Core.List.{List}
use native.Mathlib.Omega.{arith}
use lib.ListN.{length, drop, length-drop}
use Rattle.std.specs.Prelude.{Result, Ok, Err, IsErrAnd}
use Rattle.verdict.specs.declared.Reason.{Reason}
use Rattle.verdict.specs.declared.Refusal.{Refusal}
use Rattle.verdict.specs.Numbers.{number}
use Rattle.readers.specs.declared.Line.{Line}
use Rattle.lines.specs.Line.{Got, refused, got}
use Rattle.readers.specs.Readers.{Reads, ReadsAs}

pub reads_refused : {A B : Type 0} (view : B → A) (s : List ℕ) (g : Got A) (r : Result (Line B) Refusal) (e : Refusal) → IsErrAnd r (λ x. x ≡ e) → g ≡ refused (number e.reason) e.at → ReadsAs view s g r
reads_refused view s g (Ok _) e k h = absurd k
reads_refused view s g (Err x) e k h = subst (λ (x : Refusal). g ≡ refused (number x.reason) x.at) (sym k) h

-- each reason has a number of its own
pub number_one : (a b : Reason) → number a ≡ number b → a ≡ b
number_one a b e = grind arith

drop_one : (s : List ℕ) (m n : ℕ) → m ≤ length s → n ≤ length s → drop m s ≡ drop n s → m ≡ n
drop_one s m n l k e = omega (arith, ap length e, length-drop m s, length-drop n s)

-- any two results of which the same is told are equal
pub reads_one : {A : Type 0} (s : List ℕ) (g : Got A) (r q : Result (Line A) Refusal) → Reads s g r → Reads s g q → r ≡ q
reads_one s g (Ok l) (Ok m) h k =
    let e : got l.value (drop l.next s) ≡ got m.value (drop m.next s) = sym h.1 ∙ k.1 in
    let v : l.value ≡ m.value = cc in
    let d : drop l.next s ≡ drop m.next s = cc in
    ap₂ (λ (n : ℕ) (v : _). Ok (record { next = n; value = v })) (drop_one s l.next m.next h.0 k.0 d) v
reads_one s g (Ok l) (Err f) h k = let e : got l.value (drop l.next s) ≡ refused (number f.reason) f.at = sym h.1 ∙ k in cc
reads_one s g (Err e) (Ok m) h k = let q : refused (number e.reason) e.at ≡ got m.value (drop m.next s) = sym h ∙ k.1 in cc
reads_one s g (Err e) (Err f) h k =
    let q = sym h ∙ k in
    let c : number e.reason ≡ number f.reason = cc in
    let l : e.at ≡ f.at = cc in
    ap₂ (λ (a : Reason) (l : ℕ). Err (record { reason = a; at = l })) (number_one e.reason f.reason c) l

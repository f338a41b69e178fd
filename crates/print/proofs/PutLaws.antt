-- One text put after another is the two as one; the digits that `io` makes are a number's text.
-- Assumes nothing.
use Prim.Native.Nat.{ℕ, ◌+◌, ◌^◌, ◌≤◌, ◌<◌}
use mathlib.Core.Path.{◌≡◌, ap, ap₂, sym, ◌∙◌}
use mathlib.Core.List.{List, ◌++◌, append_assoc}
use native.Mathlib.Omega.{arith}
use lib.ListN.{length, take, drop, length-append, length-drop}
use lib.Seq.{take_at, drop-append-add, drop-drop, length-take-le}
use Rattle.io.specs.Digits.{last_digits, IsDigitCount}
use Rattle.lines.specs.Text.{decimal, hex, width}
use Rattle.lines.proofs.NumberLaws.{width_fewest, fewest_unique}
use Rattle.print.specs.Puts.{Puts}

-- ---- one text after another
module _ {o : List ℕ} {at : ℕ} {t : List ℕ} {r : ℕ} {o₁ : List ℕ} (u : List ℕ) (fits : at + length (t ++ u) ≤ length o) (p : Puts o at t r o₁) where
  before : length (take at o ++ t) ≡ at + length t
  before = length-append (take at o) t ∙ omega (arith, length-take-le at o (omega arith), length-append t u)

  pub puts_then : {r₂ : ℕ} {o₂ : List ℕ} → Puts o₁ r u r₂ o₂ → Puts o at (t ++ u) r₂ o₂
  puts_then q =
      let head : take r o₁ ≡ take at o ++ t = ap (take r) p.bytes ∙ take_at (take at o ++ t) (drop (at + length t) o) r (before ∙ sym p.end) in
      let e : r + length u ≡ length (take at o ++ t) + length u = omega (arith, before, p.end) in
      let f : at + length t + length u ≡ at + length (t ++ u) = omega (arith, length-append t u) in
      let tail : drop (r + length u) o₁ ≡ drop (at + length (t ++ u)) o =
      ap₂ (λ (n : ℕ) (l : List ℕ). drop n l) e p.bytes
      ∙ drop-append-add (take at o ++ t) (drop (at + length t) o) (length u)
      ∙ drop-drop (length u) (at + length t) o
      ∙ ap (λ (n : ℕ). drop n o) f in
      record {
        end = q.end ∙ omega (arith, p.end, length-append t u);
        bytes = q.bytes ∙ ap₂ (λ (x y : List ℕ). x ++ u ++ y) head tail ∙ ap (λ (x : List ℕ). x ++ drop (at + length (t ++ u)) o) (append_assoc (take at o) t u);
      }

-- a buffer keeps its length
pub puts_long : {o : List ℕ} {at : ℕ} {t : List ℕ} {r : ℕ} {o' : List ℕ} → at + length t ≤ length o → Puts o at t r o' → length o' ≡ length o
puts_long {o} {at} {t} fits p = ap length p.bytes ∙ simp (length-append, length-drop) (omega (arith, length-take-le at o (omega arith)))

-- ---- the digits of a number
pub width_made : (n k : ℕ) → n < 2 ^ 64 → IsDigitCount 10 1 n k → k ≡ width n
width_made n k h f = fewest_unique n k (width n) f (width_fewest n (omega arith))

pub decimal_made : (n k : ℕ) → n < 2 ^ 64 → IsDigitCount 10 1 n k → last_digits 10 k n ≡ decimal n
unfolding decimal
decimal_made n k h f = ap (λ (m : ℕ). last_digits 10 m n) (width_made n k h f)

pub hex_made : (n k : ℕ) → k ≤ 16 → IsDigitCount 16 16 n k → last_digits 16 k n ≡ hex n
unfolding hex
hex_made n k h f = ap (λ (m : ℕ). last_digits 16 m n) (let e : k ≡ 16 = omega (arith, f.0) in e)

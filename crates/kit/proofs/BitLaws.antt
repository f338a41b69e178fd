-- Bits of a word, of an or and of an and; the algebra of the or.
-- Assumes nothing.
use mathlib.Core.Path.{◌≡◌, refl, sym, ap, ◌∙◌}
use Prim.Native.Nat.{ℕ, suc, ◌+◌, ◌/◌, ◌%◌, ◌^◌, ◌<◌, min, max}
use native.Mathlib.Nat.{div-one}
use native.Mathlib.Numerals.{add-one}
use native.Mathlib.Omega.{arith}
use lib.Arith.{bin_ind, digits_mod}
use lib.Pow.{shr-shr}
use lib.Bits.{bit_and, and_step, and_shr, bit_or, or_step, or_shr, or_comm, or_self}
use Rattle.kit.specs.Kit.{bit}

pub bit_small : (n : ℕ) → n % 2 < 2
bit_small n = omega arith

pub bit_next : (w k : ℕ) → w / 2 ^ k / 2 ≡ w / 2 ^ suc k
bit_next w k = shr-shr w k 1 ∙ ap (λ (x : ℕ). w / 2 ^ x) (add-one k)

-- two words with the same bits are one
up_bit : (n k : ℕ) → bit (n / 2) k ≡ bit n (1 + k)
up_bit n k = ap (λ (x : ℕ). x % 2) (shr-shr n 1 k)

same_half : (a b : ℕ) → ((k : ℕ) → bit a k ≡ bit b k) → (k : ℕ) → bit (a / 2) k ≡ bit (b / 2) k
same_half a b h k = up_bit a k ∙ h (1 + k) ∙ sym (up_bit b k)

from_half : (a b : ℕ) → ((k : ℕ) → bit a k ≡ bit b k) → a / 2 ≡ b / 2 → a ≡ b
from_half a b h e = omega (arith, sym (ap (λ (x : ℕ). x % 2) (div-one a)) ∙ h 0 ∙ ap (λ (x : ℕ). x % 2) (div-one b))

pub bit_ext : (a b : ℕ) → ((k : ℕ) → bit a k ≡ bit b k) → a ≡ b
bit_ext a =
    bin_ind (λ (n : ℕ). (b : ℕ) → ((k : ℕ) → bit n k ≡ bit b k) → n ≡ b)
    (bin_ind (λ (b : ℕ). ((k : ℕ) → bit 0 k ≡ bit b k) → 0 ≡ b) (λ h. refl) (λ b ih h. from_half 0 b h (ih (same_half 0 b h))))
    (λ n ih b h. from_half n b h (ih (b / 2) (same_half n b h)))
    a

-- the or, bit by bit
or_low : (a b : ℕ) → bit_or a b % 2 ≡ max (a % 2) (b % 2)
or_low a b = ap (λ (x : ℕ). x % 2) (or_step a b) ∙ digits_mod (bit_or (a / 2) (b / 2)) (omega arith)

pub or_bit : (a b k : ℕ) → bit (bit_or a b) k ≡ max (bit a k) (bit b k)
or_bit a b k = ap (λ (x : ℕ). x % 2) (or_shr a b k) ∙ or_low (a / 2 ^ k) (b / 2 ^ k)

-- its algebra: order, repetition and grouping do not matter
pub union_comm : (a b : ℕ) → bit_or a b ≡ bit_or b a
union_comm = or_comm

pub union_self : (a : ℕ) → bit_or a a ≡ a
union_self = or_self

pub union_assoc : (a b c : ℕ) → bit_or (bit_or a b) c ≡ bit_or a (bit_or b c)
union_assoc a b c = bit_ext _ _ (λ k. omega (arith, or_bit (bit_or a b) c k, or_bit a b k, or_bit a (bit_or b c) k, or_bit b c k))

-- the and, bit by bit
and_low : (a b : ℕ) → bit_and a b % 2 ≡ min (a % 2) (b % 2)
and_low a b = ap (λ (x : ℕ). x % 2) (and_step a b) ∙ digits_mod (bit_and (a / 2) (b / 2)) (omega arith)

pub and_bit : (a b k : ℕ) → bit (bit_and a b) k ≡ min (bit a k) (bit b k)
and_bit a b k = ap (λ (x : ℕ). x % 2) (and_shr a b k) ∙ and_low (a / 2 ^ k) (b / 2 ^ k)

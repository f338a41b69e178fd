-- A list laid at the start of a lent buffer, by whether it has room for it.
-- Assumes nothing.
use Rattle.std.proofs.Common.{ℕ, ◌≤◌, ◌<◌, ◌≡◌, refl, ap, List, ◌++◌, length, drop, arith, length-append}
use native.Mathlib.Decide.{dec_le}
use Rattle.answer.specs.Lent.{laid, holding}

pub too_short : {A : Type 0} (given old : List A) → length old < length given → (0 ≡ laid given old) × (old ≡ holding given old)
unfolding laid holding
too_short {A} given old h = go (dec_le (length given) (length old))
  where
    go : (d : Dec (length given ≤ length old)) → (◌≡◌ {A = ℕ} 0 (elim d [ yes _ ↦ length given | no _ ↦ 0 ])) × (old ≡ elim d [ yes _ ↦ given ++ drop (length given) old | no _ ↦ old ])
    go (yes l) = absurd (omega arith)
    go (no l) = (refl, refl)

pub has_room : {A : Type 0} (given old : List A) → length given ≤ length old → (length given ≡ laid given old) × (given ++ drop (length given) old ≡ holding given old)
unfolding laid holding
has_room {A} given old h = go (dec_le (length given) (length old))
  where
    go : (d : Dec (length given ≤ length old)) → (length given ≡ elim d [ yes _ ↦ length given | no _ ↦ 0 ]) × (given ++ drop (length given) old ≡ elim d [ yes _ ↦ given ++ drop (length given) old | no _ ↦ old ])
    go (yes l) = (refl, refl)
    go (no l) = absurd (l h)

-- what is laid stands in the buffer
within : (bytes old : List ℕ) → laid bytes old ≤ length (holding bytes old)
unfolding laid holding
within bytes old = go (dec_le (length bytes) (length old))
  where
    go : (d : Dec (length bytes ≤ length old)) → elim d [ yes _ ↦ length bytes | no _ ↦ 0 ] ≤ length {A = ℕ} (elim d [ yes _ ↦ bytes ++ drop (length bytes) old | no _ ↦ old ])
    go (yes _) = omega (arith, length-append bytes (drop (length bytes) old))
    go (no _) = omega arith

pub laid_within : (bytes old : List ℕ) {r : ℕ} {out : List ℕ} → r ≡ laid bytes old → out ≡ holding bytes old → r ≤ length out
laid_within bytes old e f = omega (arith, ap length f, within bytes old)

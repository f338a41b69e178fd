-- How many bytes a sheet has, and how many are always enough.
-- Assumes nothing.
use Prim.Native.Nat.{ℕ, zero, suc, ◌+◌, ◌-◌, ◌*◌, ◌^◌, ◌≤◌, ◌<◌}
use mathlib.Core.Path.{◌≡◌, refl, ap, ◌∙◌}
use mathlib.Core.List.{List}
use native.Mathlib.Decide.{dec_le}
use native.Mathlib.Nat.{pow-le-pow_right}
use native.Mathlib.Numerals.{add-one}
use native.Mathlib.Omega.{arith}
use lib.IntN.{ℤ, pos, negsuc, nat_abs}
use lib.ListN.{length, get_or, length-append}
use Rattle.table.specs.Table.{Table, places, kit_of, Even, Valid}
use Rattle.table.proofs.TableLaws.{valid_even, valid_ranged}
use Rattle.lines.specs.Text.{signed, width}
use Rattle.lines.proofs.NumberLaws.{width_fewest, width_most, decimal_length, hex_length}
use Rattle.rows.specs.Sheet.{place_part, query_part, sheet_bytes, asked}
use Rattle.rows.specs.Pieces.{head_text, place_text, places_text, query_text}
use Rattle.rows.proofs.RowLaws.{inside_near}
use Rattle.rows.proofs.PieceLaws.{in_pieces}

-- a number below 10 ^ k has at most k digits
width_below : (k n : ℕ) → 1 ≤ k → k ≤ 20 → n < 10 ^ k → width n ≤ k
width_below k n some few h = go (dec_le (width n) k)
  where
    go : Dec (width n ≤ k) → width n ≤ k
    go (yes l) = l
    go (no l) =
        let f = width_fewest n (omega (arith, pow-le-pow_right {n = 10} (omega arith) {i = k} {j = 20} few)) in
        absurd (omega (arith, f.2 (omega arith), pow-le-pow_right {n = 10} (omega arith) {i = k} {j = width n - 1} (omega arith)))

-- with its sign it has at most one byte more
signed_length : (z : ℤ) → length (signed z) ≤ 1 + width (nat_abs z)
unfolding signed
signed_length (pos n) = omega (arith, decimal_length n)
signed_length (negsuc n) = omega (arith, decimal_length (suc n))

pub signed_most : (z : ℤ) → length (signed z) ≤ 21
signed_most z = omega (arith, signed_length z, width_most (nat_abs z))

-- the bytes of lines
head_length : (p : ℕ) → length (head_text p) ≡ 16 + width p
unfolding head_text
head_length p = simp length-append (omega (arith, decimal_length p))

pub place_length : (i : ℕ) (x y : ℤ) (kit : ℕ) → length (place_text i x y kit) ≡ 34 + width i + length (signed x) + length (signed y)
unfolding place_text place_part
place_length i x y kit = simp length-append (omega (arith, decimal_length i, hex_length kit))

query_length : (want budget : ℕ) → length (query_text want budget) ≡ 40 + width budget
unfolding query_text query_part
query_length want budget = simp length-append (omega (arith, decimal_length budget, hex_length want))

-- the bytes of place k and of the first k places, whatever their kit words
abbrev pub size_at : List ℤ → List ℤ → ℕ → ℕ
size_at x y k = 34 + width k + length (signed (get_or x k (pos 0))) + length (signed (get_or y k (pos 0)))

pub size_to : List ℤ → List ℤ → ℕ → ℕ
size_to x y zero = 0
size_to x y (suc k) = size_to x y k + size_at x y k

pub size_none : (x y : List ℤ) → size_to x y 0 ≡ 0
unfolding size_to
size_none x y = refl

pub size_next : (x y : List ℤ) (k : ℕ) → size_to x y (k + 1) ≡ size_to x y k + size_at x y k
unfolding size_to
size_next x y k = rw add-one

places_length : (t : Table) (k : ℕ) → length (places_text t k) ≡ size_to t.x t.y k
unfolding places_text size_to
places_length t zero = refl
places_length t (suc k) =
    length-append (places_text t k) _ ∙ omega (arith, places_length t k, place_length k (get_or t.x k (pos 0)) (get_or t.y k (pos 0)) (kit_of t k))

pub size_most : (x y : List ℤ) (k : ℕ) → size_to x y k ≤ 96 * k
unfolding size_to
size_most x y zero = omega arith
size_most x y (suc k) = omega (arith, size_most x y k, width_most k, signed_most (get_or x k (pos 0)), signed_most (get_or y k (pos 0)))

-- the bytes of the sheet
pub sheet_length : (t : Table) (want budget : ℕ) → Even t → length (sheet_bytes (asked t want budget)) ≡ 56 + width (places t) + width budget + size_to t.x t.y (places t)
sheet_length t want budget e =
    ap length (in_pieces t want budget e)
    ∙ simp length-append (omega (arith, head_length (places t), places_length t (places t), query_length want budget))

-- in a valid table a place has at most 54 bytes
module _ {t : Table} (v : Valid t) where
  valid_most : (k : ℕ) → k ≤ places t → size_to t.x t.y k ≤ 54 * k
  unfolding size_to
  valid_most zero l = omega arith
  valid_most (suc k) l =
      let x = get_or t.x k (pos 0) in
      let y = get_or t.y k (pos 0) in
      let r = valid_ranged v k (omega arith) in
      let near : (z : ℤ) → nat_abs z ≤ 1000000 → length (signed z) ≤ 8 = λ z h. omega (arith, signed_length z, width_below 7 (nat_abs z) (omega arith) (omega arith) (omega arith)) in
      omega (arith, valid_most k (omega arith), width_below 4 k (omega arith) (omega arith) (omega (arith, (valid_even v).few)), near x (inside_near x r.x.lo), near y (inside_near y r.y.lo))

  -- so that 70 bytes and 54 for each place are enough for any sheet, and 221,254 for a full one
  pub bytes_enough : (want budget : ℕ) → budget ≤ 4294967295 → length (sheet_bytes (asked t want budget)) ≤ 70 + 54 * places t
  bytes_enough want budget b =
      let few = (valid_even v).few in
      omega (arith, sheet_length t want budget (valid_even v), valid_most (places t) (omega arith), width_below 4 (places t) (omega arith) (omega arith) (omega arith), width_below 10 budget (omega arith) (omega arith) (omega arith))

  pub full_enough : (want budget : ℕ) → budget ≤ 4294967295 → length (sheet_bytes (asked t want budget)) ≤ 221254
  full_enough want budget b = omega (arith, bytes_enough want budget b, (valid_even v).few)

-- Columns and the places that stand in them; the places of a sheet are those of a valid table.
-- Assumes nothing.
use Prim.Native.Nat.{ℕ, zero, suc, ◌+◌, ◌^◌, ◌≤◌, ◌<◌}
use mathlib.Core.Path.{◌≡◌, refl, ap, ap₂, sym, subst, ◌∙◌}
use mathlib.Core.Bool.{Bool, true, false, ◌||◌}
use mathlib.Core.List.{List, [], ◌∷◌, zip, zip_with}
use native.Mathlib.Omega.{arith}
use lib.IntN.{ℤ, pos, negsuc, nat_abs}
use lib.Signed.{lt_z}
use lib.ListN.{length, get_or, length-map}
use Rattle.plane.specs.Plane.{outside}
use Rattle.plane.proofs.WholeLaws.{up, down, Le, range_read, lt_true}
use Rattle.plane.proofs.BoxLaws.{point_ranged}
use Rattle.table.specs.Table.{Table, table, places, kit_of, Even, Valid}
use Rattle.table.proofs.TableLaws.{valid_even, valid_ranged}
use Rattle.lines.specs.Part.{Part, several}
use Rattle.rows.specs.Sheet.{Place, place_part, rows, x_of, y_of, word_of, columns}

-- in range, as the rules of a table and as the lines of a sheet have it
pub inside_near : (z : ℤ) → outside z ≡ false → nat_abs z ≤ 1000000
inside_near (pos n) e = omega (arith, range_read (pos n) e)
inside_near (negsuc n) e = omega (arith, range_read (negsuc n) e)

near_size : (z : ℤ) → nat_abs z ≤ 1000000 → up z + down z ≤ 1000000
near_size (pos n) h = omega arith
near_size (negsuc n) h = omega arith

not_less : (a b : ℤ) → Le b a → lt_z a b ≡ false
not_less a b l = go (lt_z a b) refl
  where
    go : (t : Bool) → lt_z a b ≡ t → t ≡ false
    go true e = absurd (omega (arith, lt_true a b e))
    go false e = refl

near_inside : (z : ℤ) → nat_abs z ≤ 1000000 → outside z ≡ false
unfolding outside
near_inside z h =
    let low : Le (negsuc 999999) z = omega (arith, near_size z h) in
    let high : Le z (pos 1000000) = omega (arith, near_size z h) in
    ap₂ ◌||◌ (not_less z (negsuc 999999) low) (not_less (pos 1000000) z high)

-- as many places as are counted
pub several_length : {A : Type 0} (q : ℕ → Part A) (k i : ℕ) (l : List A) → (several q k i).Fits l → length l ≡ k
unfolding several
several_length q zero i l h = ap length h
several_length q (suc k) i [] h = absurd h
several_length q (suc k) i (a ∷ l) h = ap suc (several_length q k (suc i) l h.1)

-- places of columns, and columns of places
pub rows_columns : (l : List Place) → rows (columns l) ≡ l
unfolding zip zip_with
rows_columns [] = refl
rows_columns (p ∷ l) = ap (λ (m : List Place). p ∷ m) (rows_columns l)

columns_rows : (x y : List ℤ) (k : List ℕ) → length y ≡ length x → length k ≡ length x → columns (rows (table x y k)) ≡ table x y k
unfolding zip zip_with
columns_rows [] [] [] e f = refl
columns_rows [] [] (_ ∷ _) e f = absurd (omega arith)
columns_rows [] (_ ∷ _) k e f = absurd (omega arith)
columns_rows (_ ∷ _) [] k e f = absurd (omega arith)
columns_rows (_ ∷ _) (_ ∷ _) [] e f = absurd (omega arith)
columns_rows (a ∷ x) (b ∷ y) (c ∷ k) e f =
    ap (λ (t : Table). table (a ∷ t.x) (b ∷ t.y) (c ∷ t.kit)) (columns_rows x y k (omega arith) (omega arith))

-- the coordinates and the kit word of a place are what its lines can say
abbrev Near : Table → ℕ → Type 0
Near t p = (nat_abs (get_or t.x p (pos 0)) ≤ 1000000) × ((nat_abs (get_or t.y p (pos 0)) ≤ 1000000) × (kit_of t p < 2 ^ 64))

fits : (x y : List ℤ) (k : List ℕ) (i : ℕ) → length y ≡ length x → length k ≡ length x → ((p : ℕ) → p < length x → Near (table x y k) p) →
    (several place_part (length x) i).Fits (rows (table x y k))
unfolding several place_part zip zip_with
fits [] y k i e f n = refl
fits (_ ∷ _) [] k i e f n = absurd (omega arith)
fits (_ ∷ _) (_ ∷ _) [] i e f n = absurd (omega arith)
fits (a ∷ x) (b ∷ y) (c ∷ k) i e f n =
    ((refl, (tt, n 0 (omega arith))), fits x y k (suc i) (omega arith) (omega arith) (λ p l. n (suc p) (omega arith)))

near : (l : List Place) (i : ℕ) → (several place_part (length l) i).Fits l → (p : ℕ) → p < length l → Near (columns l) p
unfolding several place_part
near [] i h p b = absurd (omega arith)
near (a ∷ l) i h zero b = h.0.1.1
near (a ∷ l) i h (suc p) b = near l (suc i) h.1 p (omega arith)

-- a valid table is its places, and they are what lines can say
module _ (t : Table) (v : Valid t) where
  pub valid_columns : columns (rows t) ≡ t
  valid_columns = columns_rows t.x t.y t.kit (valid_even v).y (valid_even v).kit

  pub valid_fits : ((p : ℕ) → p < places t → kit_of t p < 2 ^ 64) → (several place_part (places t) 0).Fits (rows t)
  valid_fits k = fits t.x t.y t.kit 0 (valid_even v).y (valid_even v).kit (λ p l.
      let r = valid_ranged v p l in
      (inside_near (get_or t.x p (pos 0)) r.x.lo, (inside_near (get_or t.y p (pos 0)) r.y.lo, k p l)))

-- and a table whose places lines can say is valid
module _ (t : Table) (c : columns (rows t) ≡ t) (few : places t ≤ 4096) (f : (several place_part (places t) 0).Fits (rows t)) where
  lengths : length (rows t) ≡ places t
  lengths = several_length place_part (places t) 0 (rows t) f

  all_near : (p : ℕ) → p < places t → Near t p
  all_near =
      let l = rows t in
      let g = subst (λ (n : ℕ). (several place_part n 0).Fits l) (sym lengths) f in
      subst (λ (t : Table). (p : ℕ) → p < places t → Near t p) c (λ p b. near l 0 g p (omega (arith, b, length-map l x_of)))

  even : Even t
  even = let l = rows t in record {
    y = ap (λ (t : Table). length t.y) (sym c) ∙ length-map l y_of ∙ lengths;
    kit = ap (λ (t : Table). length t.kit) (sym c) ∙ length-map l word_of ∙ lengths;
    few = few;
  }

  pub fits_valid : Valid t
  fits_valid = (λ k _ _. even, (λ p _ b. let n = all_near p (omega (arith, b)) in point_ranged (near_inside (get_or t.x p (pos 0)) n.0) (near_inside (get_or t.y p (pos 0)) n.1.0), tt))

  pub fits_kits : (p : ℕ) → p < places t → kit_of t p < 2 ^ 64
  fits_kits p b = (all_near p b).1.1

-- The bytes of a sheet are its pieces, one after the other.
-- Assumes nothing.
use Prim.Native.Nat.{ℕ, zero, suc, ◌+◌}
use mathlib.Core.Path.{◌≡◌, refl, ap, ap₂, sym, ◌∙◌}
use mathlib.Core.List.{List, [], ◌∷◌, ◌++◌, zip, zip_with, append_assoc, append-nil}
use native.Mathlib.Omega.{arith}
use lib.IntN.{ℤ, pos}
use lib.ListN.{length, get_or}
use Rattle.table.specs.Table.{Table, table, places, kit_of, Even}
use Rattle.lines.specs.Text.{ascii}
use Rattle.lines.specs.Part.{several}
use Rattle.rows.specs.Sheet.{fixed, count_line, place_part, rows, sheet_part, sheet_bytes, asked}
use Rattle.rows.specs.Pieces.{head_text, place_text, places_text, query_text}

-- k texts, one after the other
joined : (ℕ → List ℕ) → ℕ → List ℕ
joined f zero = []
joined f (suc k) = joined f k ++ f k

joined_first : (f : ℕ → List ℕ) (k : ℕ) → f 0 ++ joined (λ j. f (suc j)) k ≡ joined f (suc k)
unfolding joined
joined_first f zero = append-nil (f 0)
joined_first f (suc k) = sym (append_assoc (f 0) (joined (λ j. f (suc j)) k) (f (suc k))) ∙ ap (λ (s : List ℕ). s ++ f (suc k)) (joined_first f k)

joined_same : (f g : ℕ → List ℕ) → ((j : ℕ) → f j ≡ g j) → (k : ℕ) → joined f k ≡ joined g k
unfolding joined
joined_same f g e zero = refl
joined_same f g e (suc k) = ap₂ ◌++◌ (joined_same f g e k) (e k)

-- the lines of places that are numbered from i on
abbrev text_from : ℕ → Table → ℕ → List ℕ
text_from i t j = place_text (i + j) (get_or t.x j (pos 0)) (get_or t.y j (pos 0)) (kit_of t j)

several_joined : (x y : List ℤ) (k : List ℕ) (i : ℕ) → length y ≡ length x → length k ≡ length x →
    (several place_part (length x) i).text (rows (table x y k)) ≡ joined (text_from i (table x y k)) (length x)
unfolding several place_part place_text zip zip_with joined
several_joined [] y k i e f = refl
several_joined (_ ∷ _) [] k i e f = absurd (omega arith)
several_joined (_ ∷ _) (_ ∷ _) [] i e f = absurd (omega arith)
several_joined (a ∷ x) (b ∷ y) (c ∷ k) i e f =
    let t = table (a ∷ x) (b ∷ y) (c ∷ k) in
    let later : (j : ℕ) → text_from (suc i) (table x y k) j ≡ text_from i t (suc j) = λ j.
    let q : suc i + j ≡ i + suc j = omega arith in ap (λ (n : ℕ). place_text n (get_or x j (pos 0)) (get_or y j (pos 0)) (get_or k j 0)) q in
    let q : i ≡ i + 0 = omega arith in
    ap₂ (λ (n : ℕ) (s : List ℕ). place_text n a b c ++ s) q (several_joined x y k (suc i) (omega arith) (omega arith) ∙ joined_same _ _ later (length x))
    ∙ joined_first (text_from i t) (length x)

placed : (t : Table) (k : ℕ) → joined (text_from 0 t) k ≡ places_text t k
unfolding joined places_text
placed t zero = refl
placed t (suc k) =
    let q : 0 + k ≡ k = omega arith in
    ap₂ (λ (s : List ℕ) (n : ℕ). s ++ place_text n (get_or t.x k (pos 0)) (get_or t.y k (pos 0)) (kit_of t k)) (placed t k) q

pub in_pieces : (t : Table) (want budget : ℕ) → Even t → sheet_bytes (asked t want budget) ≡ head_text (places t) ++ (places_text t (places t) ++ query_text want budget)
unfolding sheet_bytes sheet_part head_text query_text
in_pieces t want budget e =
    let head = (fixed (ascii "sheet=") (ascii "1")).text tt in
    let count = count_line.text (places t) in
    sym (append_assoc head count ((several place_part (places t) 0).text (rows t) ++ query_text want budget))
    ∙ ap (λ (s : List ℕ). (head ++ count) ++ (s ++ query_text want budget)) (several_joined t.x t.y t.kit 0 e.y e.kit ∙ placed t (places t))

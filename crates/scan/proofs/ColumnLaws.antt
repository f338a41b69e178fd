-- A column that is filled from the front, one place a turn.
-- Assumes nothing.
use Prim.Native.Nat.{ℕ, suc, ◌+◌, ◌<◌}
use mathlib.Core.Path.{◌≡◌, refl, ap, ap₂, sym, subst, ◌∙◌}
use mathlib.Core.List.{List, [], ◌∷◌, ◌++◌, map, append_assoc}
use native.Mathlib.Numerals.{add-one}
use lib.ListN.{length, drop, set, length-map, length-set}
use lib.Seq.{drop-cons, set_at}
use Rattle.lines.specs.Line.{Got, refused, got}
use Rattle.table.specs.Table.{Table}
use Rattle.rows.specs.Sheet.{Place, x_of, y_of, word_of}
use Rattle.scan.specs.Read.{stored}

map_snoc : {A B : Type 0} (f : A → B) (l : List A) (a : A) → map f (l ++ (a ∷ [])) ≡ map f l ++ (f a ∷ [])
map_snoc f [] a = refl
map_snoc f (b ∷ l) a = ap (λ (m : List _). f b ∷ m) (map_snoc f l a)

-- the first of the column are the places', and the rest is as it was
pub record Column {B : Type 0} (f : Place → B) (l : List Place) (i : ℕ) (col₀ col : List B) : Type 0 where
  pub is : col ≡ map f l ++ drop i col₀
  pub long : length col ≡ length col₀

pub column_none : {B : Type 0} (f : Place → B) (col : List B) → Column f [] 0 col col
column_none f col = record { is = refl; long = refl }

module _ {B : Type 0} (f : Place → B) (l : List Place) (i : ℕ) (col₀ col : List B) (n : length l ≡ i) (c : Column f l i col₀ col) where
  pub column_more : (a : Place) (b d : B) → b ≡ f a → i < length col₀ → Column f (l ++ (a ∷ [])) (i + 1) col₀ (set col i b)
  column_more a b d e h = record {
    is =
        ap₂ (λ (m : List B) (x : B). set m i x) (c.is ∙ ap (λ (m : List B). map f l ++ m) (drop-cons col₀ i d h)) e
        ∙ set_at (map f l) _ (drop (suc i) col₀) (f a) i (length-map l f ∙ n)
        ∙ ap (λ (k : ℕ). map f l ++ (f a ∷ drop k col₀)) (sym (add-one i))
        ∙ sym (append_assoc (map f l) (f a ∷ []) (drop (i + 1) col₀))
        ∙ ap (λ (m : List B). m ++ drop (i + 1) col₀) (sym (map_snoc f l a));
    long = length-set col i b ∙ c.long;
  }

-- the three columns of a table
pub record Columns (l : List Place) (i : ℕ) (t₀ t : Table) : Type 0 where
  pub x : Column x_of l i t₀.x t.x
  pub y : Column y_of l i t₀.y t.y
  pub kit : Column word_of l i t₀.kit t.kit

-- what is said of a column, when all places are passed and in a refusal
pub column_stored : {B : Type 0} (f : Place → B) (g : Got (List Place)) (l : List Place) (r : List ℕ) (i : ℕ) (col₀ col : List B) → g ≡ got l r → length l ≡ i → Column f l i col₀ col → stored f g col₀ col
column_stored f g l r i col₀ col e n c =
    subst (λ (g : Got (List Place)). stored f g col₀ col) (sym e) (c.is ∙ ap (λ (k : ℕ). map f l ++ drop k col₀) (sym n ∙ sym (length-map l f)))

pub column_unsaid : {B : Type 0} (f : Place → B) (g : Got (List Place)) (c l : ℕ) (col₀ col : List B) → g ≡ refused c l → stored f g col₀ col
column_unsaid f g c l col₀ col e = subst (λ (g : Got (List Place)). stored f g col₀ col) (sym e) tt

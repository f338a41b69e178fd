-- The rules 21 to 26 of a tree.
-- Assumes nothing.
use Rattle.std.specs.Prelude.{◌≡◌, List, [], ◌∷◌, ◌++◌, ◌↔◌, ℕ, suc, ◌+◌, ◌-◌, ◌≤◌, ◌<◌, ℤ, pos, negsuc, length}
use Rattle.std.proofs.Common.{sym, ap, ap₂, lit≤}
use Rattle.std.proofs.Math.Logic.Dec
use Rattle.std.proofs.Math.Decide.{dec_le, dec_lt, ℕ_discrete}
use Rattle.std.specs.Int.Bits.{bit_or}
use Rattle.std.proofs.Math.IntN.{pos-ne-negsuc}
use Rattle.plane.specs.Plane.{join_boxes}
use Rattle.plane.specs.declared.Box.{Box}
use Rattle.plane.specs.declared.Span.{Span}
use Rattle.table.specs.Table.{Table, places, table_rules}
use Rattle.verdict.specs.Decided.{dec_by, dec_implies}
use Rattle.verdict.specs.First.{dec_all}
use Rattle.verdict.specs.Rules.{Rule}
use Rattle.tree.specs.declared.Lengths.{Lengths}
use Rattle.tree.specs.Tree.{Shape, Sides, Tree, level_of, start_of, count_of, due, owner, Thing, place, node, Thing-discrete, named, box_of, kit_of, joined_run}

-- how long the columns are
abbrev pub lengths : Tree → Lengths
lengths t = record {
  level = length t.shape.level;
  start = length t.shape.start;
  count = length t.shape.count;
  entries = length t.shape.entries;
  x_lo = length t.sides.x_lo;
  x_hi = length t.sides.x_hi;
  y_lo = length t.sides.y_lo;
  y_hi = length t.sides.y_hi;
  kits = length t.kits;
}

-- columns of these lengths have room for so many nodes and entries
pub record Room (nodes listed : ℕ) (l : Lengths) : Type 0 where
  pub level : nodes ≤ l.level
  pub start : nodes ≤ l.start
  pub count : nodes ≤ l.count
  pub entries : listed ≤ l.entries
  pub x_lo : nodes ≤ l.x_lo
  pub x_hi : nodes ≤ l.x_hi
  pub y_lo : nodes ≤ l.y_lo
  pub y_hi : nodes ≤ l.y_hi
  pub kits : nodes ≤ l.kits

-- 21: the counts go with a table of p places, and no lent column is shorter than its count
pub record Counted (p nodes listed : ℕ) (l : Lengths) : Type 0 where
  pub empty : (nodes ≡ 0) ↔ (p ≡ 0)
  pub few : nodes ≤ 2048
  pub all : listed ≡ p + nodes - 1
  pub room : Room nodes listed l

-- 22, at a node: its level is 1 to 6, its count 1 to 16, and its run starts where the one before ends
pub record Shaped (s : Shape) (n : ℕ) : Type 0 where
  pub level_low : 1 ≤ level_of s n
  pub level_high : level_of s n ≤ 6
  pub count_low : 1 ≤ count_of s n
  pub count_high : count_of s n ≤ 16
  pub starts : start_of s n ≡ due s n

-- 22, at the node count: the last run ends at the list's end
abbrev pub Ended : Shape → Type 0
Ended s = due s s.nodes ≡ s.listed

-- 23, at a list index: what an entry of a node of level l may name, over p places
abbrev pub MayName : ℕ → Shape → ℕ → Thing → Type 0
MayName p s l (place q) = q < p
MayName p s l (node n) = (1 ≤ n) × ((n < s.nodes) × (suc (level_of s n) ≡ l))

-- 24, at a list index: what it names has not been named before
abbrev pub New : Shape → ℕ → Type 0
New s i = (j : ℕ) → j < i → named s j ≡ named s i → ⊥

-- 25, at a node: its box is the tightest around its entries' boxes
abbrev pub Boxed : Table → Sides → Shape → ℕ → Type 0
Boxed t b s n = box_of t b (node n) ≡ joined_run join_boxes (box_of t b) s n

-- 26, at a node: its kit word is the bitwise or of its entries'
abbrev pub Kitted : Table → List ℕ → Shape → ℕ → Type 0
Kitted t kits s n = kit_of t kits (node n) ≡ joined_run bit_or (kit_of t kits) s n

-- Decisions: their types say all.
unfoldable pub dec_room : (nodes listed : ℕ) (l : Lengths) → Dec (Room nodes listed l)
unfolding Dec.and dec_le
dec_room nodes listed l =
    dec_by (λ w. record {
      level = w.0;
      start = w.1.0;
      count = w.1.1.0;
      entries = w.1.1.1.0;
      x_lo = w.1.1.1.1.0;
      x_hi = w.1.1.1.1.1.0;
      y_lo = w.1.1.1.1.1.1.0;
      y_hi = w.1.1.1.1.1.1.1.0;
      kits = w.1.1.1.1.1.1.1.1;
    })
    (λ h. (h.level, (h.start, (h.count, (h.entries, (h.x_lo, (h.x_hi, (h.y_lo, (h.y_hi, h.kits)))))))))
    (Dec.and (dec_le _ _)
    (Dec.and (dec_le _ _) (Dec.and (dec_le _ _) (Dec.and (dec_le _ _) (Dec.and (dec_le _ _) (Dec.and (dec_le _ _) (Dec.and (dec_le _ _) (Dec.and (dec_le _ _) (dec_le _ _)))))))))

unfoldable pub dec_counted : (p nodes listed : ℕ) (l : Lengths) → Dec (Counted p nodes listed l)
unfolding Dec.and ℕ_discrete dec_le dec_room
dec_counted p nodes listed l =
    dec_by (λ w. record { empty = w.0; few = w.1.0; all = w.1.1.0; room = w.1.1.1 }) (λ c. (c.empty, (c.few, (c.all, c.room))))
    (Dec.and (Dec.and (dec_implies (ℕ_discrete _ _) (ℕ_discrete _ _)) (dec_implies (ℕ_discrete _ _) (ℕ_discrete _ _)))
    (Dec.and (dec_le _ _) (Dec.and (ℕ_discrete _ _) (dec_room _ _ _))))

unfoldable pub dec_shaped : (s : Shape) (n : ℕ) → Dec (Shaped s n)
unfolding Dec.and ℕ_discrete dec_le
dec_shaped s n =
    dec_by (λ w. record { level_low = w.0; level_high = w.1.0; count_low = w.1.1.0; count_high = w.1.1.1.0; starts = w.1.1.1.1 })
    (λ h. (h.level_low, (h.level_high, (h.count_low, (h.count_high, h.starts)))))
    (Dec.and (dec_le _ _) (Dec.and (dec_le _ _) (Dec.and (dec_le _ _) (Dec.and (dec_le _ _) (ℕ_discrete _ _)))))

unfoldable pub dec_may_name : (p : ℕ) (s : Shape) (l : ℕ) (x : Thing) → Dec (MayName p s l x)
unfolding Dec.and ℕ_discrete dec_le dec_lt
dec_may_name p s l (place q) = dec_lt q p
dec_may_name p s l (node n) = Dec.and (dec_le 1 n) (Dec.and (dec_lt n s.nodes) (ℕ_discrete _ _))

unfoldable pub dec_new : (s : Shape) (i : ℕ) → Dec (New s i)
unfolding dec_all Dec.not ℕ_discrete
dec_new s i = dec_all (λ j. Dec.not (Thing-discrete ℕ_discrete (named s j) (named s i))) i

unfoldable pub dec_z : (a b : ℤ) → Dec (a ≡ b)
unfolding ℕ_discrete
dec_z (pos a) (pos b) = dec_by (λ (e : a ≡ b). ap pos e) (λ (e : pos a ≡ pos b). cc) (ℕ_discrete a b)
dec_z (pos a) (negsuc b) = no (pos-ne-negsuc a b)
dec_z (negsuc a) (pos b) = no (λ e. pos-ne-negsuc b a (sym e))
dec_z (negsuc a) (negsuc b) = dec_by (λ (e : a ≡ b). ap negsuc e) (λ (e : negsuc a ≡ negsuc b). cc) (ℕ_discrete a b)

unfoldable pub dec_span : (s t : Span) → Dec (s ≡ t)
unfolding Dec.and dec_z
dec_span s t = dec_by (λ w. ap₂ (λ (l h : ℤ). record { lo = l; hi = h }) w.0 w.1) (λ e. (ap (λ (u : Span). u.lo) e, ap (λ (u : Span). u.hi) e)) (Dec.and (dec_z _ _) (dec_z _ _))

unfoldable pub dec_box : (b c : Box) → Dec (b ≡ c)
unfolding Dec.and dec_span
dec_box b c = dec_by (λ w. ap₂ (λ (x y : Span). record { x = x; y = y }) w.0 w.1) (λ e. (ap (λ (a : Box). a.x) e, ap (λ (a : Box). a.y) e)) (Dec.and (dec_span _ _) (dec_span _ _))

-- The rules, each with the places at which it is looked at.
abbrev pub rule21 : ℕ → ℕ → ℕ → Lengths → Rule
rule21 p nodes listed l = record { code = 21; numbered = lit≤ tt; from = 0; many = 1; Asks = λ _. Counted p nodes listed l; decides = λ _. dec_counted p nodes listed l }

-- at each node, and at the node count
abbrev pub rules22 : Shape → List Rule
rules22 s =
    record { code = 22; numbered = lit≤ tt; from = 0; many = s.nodes; Asks = Shaped s; decides = dec_shaped s }
    ∷ record { code = 22; numbered = lit≤ tt; from = s.nodes; many = 1; Asks = λ _. Ended s; decides = λ _. ℕ_discrete (due s s.nodes) s.listed }
    ∷ []

abbrev pub rule23 : ℕ → Shape → Rule
rule23 p s = record {
  code = 23;
  numbered = lit≤ tt;
  from = 0;
  many = s.listed;
  Asks = λ i. MayName p s (level_of s (owner s i)) (named s i);
  decides = λ i. dec_may_name p s (level_of s (owner s i)) (named s i);
}

abbrev pub rule24 : Shape → Rule
rule24 s = record { code = 24; numbered = lit≤ tt; from = 0; many = s.listed; Asks = New s; decides = dec_new s }

abbrev pub rule25 : Table → Sides → Shape → Rule
rule25 t b s = record { code = 25; numbered = lit≤ tt; from = 0; many = s.nodes; Asks = Boxed t b s; decides = λ n. dec_box _ _ }

abbrev pub rule26 : Table → List ℕ → Shape → Rule
rule26 t kits s = record { code = 26; numbered = lit≤ tt; from = 0; many = s.nodes; Asks = Kitted t kits s; decides = λ n. ℕ_discrete _ _ }

abbrev pub tree_rules : Table → Tree → List Rule
tree_rules t tree =
    rule21 (places t) tree.shape.nodes tree.shape.listed (lengths tree)
    ∷ rules22 tree.shape
    ++ rule23 (places t) tree.shape
    ∷ rule24 tree.shape
    ∷ rule25 t tree.sides tree.shape
    ∷ rule26 t tree.kits tree.shape
    ∷ []

-- what the check looks at: the table, then the tree
abbrev pub check_rules : Table → Tree → List Rule
check_rules t tree = table_rules t ++ tree_rules t tree

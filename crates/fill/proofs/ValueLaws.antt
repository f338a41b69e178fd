-- The boxes and kit words of the nodes, filled from the last node to the first.
-- Assumes nothing.
use mathlib.Core.Path.{◌≡◌, ap, ap₂, ◌∙◌}
use mathlib.Core.List.{List}
use mathlib.Core.Bool.{true, false}
use Prim.Native.Nat.{ℕ, ◌-◌, ◌≤◌, ◌<◌}
use native.Mathlib.Omega.{arith}
use lib.Dec.{eqb}
use lib.IntN.{pos}
use lib.ListN.{set}
use Rattle.plane.specs.Plane.{span, box}
use Rattle.plane.specs.declared.Box.{Box}
use Rattle.table.specs.Table.{Table, places}
use Rattle.tree.specs.Tree as tree
use Rattle.tree.specs.Tree.{Shape, Sides, Thing, place, node, level_of, start_of, count_of}
use Rattle.tree.specs.Lent.{sides, InRun, run_says}
use Rattle.levels.specs.Levels.{nodes}
use Rattle.levels.specs.Built.{box_at, kit_at, value_at}
use Rattle.levels.specs.Laid.{Laid}
use Rattle.levels.proofs.LaidLaws.{leaf_in, node_in, run_value}
use Rattle.fill.proofs.FillLaws.{Filling, fill_down}

-- the run of node m was read from columns that hold the builder's tree: from an index so many entries
pub record Read (t : Table) (s : Shape) (m from many : ℕ) : Type 0 where
  pub laid : Laid t s
  pub known : m < nodes (places t)
  pub start : from ≡ start_of s m
  pub count : many ≡ count_of s m

module _ {t : Table} {s : Shape} {m from many : ℕ} (r : Read t s m from many) where
  pub leaf_run : eqb (level_of s m) 1 ≡ true → InRun (places t) s.entries from many
  leaf_run e = rw (r.start, r.count) (leaf_in r.laid m r.known e)

  pub node_run : eqb (level_of s m) 1 ≡ false → InRun (nodes (places t)) s.entries from many
  node_run e = rw (r.start, r.count) (node_in r.laid m r.known e)

  -- what was worked out of it is the builder's value, where f says g of each place and the builder's value of each later node
  pub run_due : {A : Type 0} (op : A → A → A) (g : ℕ → A) (f : Thing → A) {v : A} → v ≡ run_says op f (eqb (level_of s m) 1) s.entries from many →
      ((p : ℕ) → f (place p) ≡ g p) → ((q : ℕ) → m < q → q < nodes (places t) → f (node q) ≡ value_at op t g q) → v ≡ value_at op t g m
  run_due op g f e h k = e ∙ rw (r.start, r.count) (run_value r.laid m r.known op g f h k)

-- of n nodes, those from m on are filled
pub record Valued (t : Table) (n : ℕ) (b₀ b : Sides) (kits₀ kits : List ℕ) (m : ℕ) : Type 0 where
  pub within : m ≤ n
  pub x_lo : Filling (pos 0) (λ q. (box_at t q).x.lo) b₀.x_lo b.x_lo m n
  pub x_hi : Filling (pos 0) (λ q. (box_at t q).x.hi) b₀.x_hi b.x_hi m n
  pub y_lo : Filling (pos 0) (λ q. (box_at t q).y.lo) b₀.y_lo b.y_lo m n
  pub y_hi : Filling (pos 0) (λ q. (box_at t q).y.hi) b₀.y_hi b.y_hi m n
  pub words : Filling 0 (kit_at t) kits₀ kits m n

module _ {t : Table} {n : ℕ} {b₀ b : Sides} {kits₀ kits : List ℕ} {m : ℕ} (v : Valued t n b₀ b kits₀ kits m) where
  -- the box of a node that is filled
  pub box_filled : (q : ℕ) → m ≤ q → q < n → tree.box_at b q ≡ box_at t q
  box_filled q l h = ap₂ box (ap₂ span (v.x_lo.filled q l h) (v.x_hi.filled q l h)) (ap₂ span (v.y_lo.filled q l h) (v.y_hi.filled q l h))

  -- one node more
  pub value_more : (c : Box) (w : ℕ) → 0 < m → c ≡ box_at t (m - 1) → w ≡ kit_at t (m - 1) →
      Valued t n b₀ (sides (set b.x_lo (m - 1) c.x.lo) (set b.x_hi (m - 1) c.x.hi) (set b.y_lo (m - 1) c.y.lo) (set b.y_hi (m - 1) c.y.hi)) kits₀ (set kits (m - 1) w) (m - 1)
  value_more c w l e f = record {
    within = omega arith;
    x_lo = fill_down v.x_lo c.x.lo l v.within (ap (λ (z : Box). z.x.lo) e);
    x_hi = fill_down v.x_hi c.x.hi l v.within (ap (λ (z : Box). z.x.hi) e);
    y_lo = fill_down v.y_lo c.y.lo l v.within (ap (λ (z : Box). z.y.lo) e);
    y_hi = fill_down v.y_hi c.y.hi l v.within (ap (λ (z : Box). z.y.hi) e);
    words = fill_down v.words w l v.within f;
  }

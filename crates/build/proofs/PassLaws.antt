-- The builder's tree passes the check.
-- Assumes nothing.
use mathlib.Core.Path.{◌≡◌, refl, sym, ap, ap₂, ◌∙◌}
use Prim.Native.Nat.{ℕ, zero, suc, ◌+◌, ◌-◌, ◌≤◌, ◌<◌}
use native.Mathlib.Omega.{arith}
use lib.Bits.{bit_or}
use Rattle.plane.specs.Plane.{span, box, join_boxes}
use Rattle.order.proofs.OrderLaws.{order_below, order_apart}
use Rattle.table.specs.Table.{Table, places, Valid, table_rules}
use Rattle.table.specs.Table as table
use Rattle.table.proofs.TableLaws.{valid_even}
use Rattle.tree.specs.Tree.{Shape, Tree, level_of, start_of, due, owner, Thing, place, node, named, box_of, kit_of, joined_run}
use Rattle.tree.specs.Tree as tree
use Rattle.tree.specs.Rules.{Shaped, Ended, MayName, tree_rules, check_rules}
use Rattle.tree.proofs.OwnerLaws.{Runs, owner_stands}
use Rattle.tree.proofs.NodeLaws.{run_says_lem}
use Rattle.tree.proofs.TreeLaws.{Meets, of_meets}
use Rattle.verdict.specs.Rules.{AllHold, verdict, says}
use Rattle.verdict.proofs.RuleLaws.{all_hold, goes_on}
use Rattle.levels.specs.Levels.{nodes, listed, level_at}
use Rattle.levels.specs.Built.{value_at, box_at, built}
use Rattle.build.specs.Room.{written_over}
use Rattle.levels.specs.Laid.{Laid}
use Rattle.levels.proofs.LevelLaws.{height_high, over_zero, none_of, nodes_few}
use Rattle.levels.proofs.RankLaws.{ranked, is_node, level_is, count_low}
use Rattle.levels.proofs.ChainLaws.{root_start, next_start, last_end}
use Rattle.levels.proofs.LaidLaws.{tab_long, says_tab, laid_of, Entry, of_place, of_node, entry_at, run_value}

module _ (t : Table) (few : places t ≤ 4096) (before : Tree) where
  abbrev n : ℕ
  n = places t

  -- the tree as the builder leaves it, whatever stood in the columns before
  abbrev left : Tree
  left = written_over (built t) before

  abbrev s : Shape
  s = left.shape

  laid : Laid t s
  laid = laid_of few refl _ _ _ _ refl refl refl refl

  -- 22: levels and counts in range, runs end to end
  starts : (m : ℕ) → m < nodes n → start_of s m ≡ due s m
  starts zero l = laid.start.at 0 l ∙ root_start few l
  starts (suc m) l =
      let b : m < nodes n = omega arith in
      laid.start.at (suc m) l ∙ next_start few m l ∙ sym (ap₂ ◌+◌ (laid.start.at m b) (laid.count.at m b))

  level_of_lem : (m : ℕ) → m < nodes n → level_of s m ≡ suc (level_at n m - 1)
  level_of_lem m l = laid.level.at m l ∙ level_is few (ranked few m l)

  shaped : (m : ℕ) → m < nodes n → Shaped s m
  shaped m l =
      let o = ranked few m l in
      let e = level_of_lem m l in
      record {
        level_low = omega arith;
        level_high = omega (arith, o.high, height_high n few);
        count_low = omega (arith, laid.count.at m l, count_low few o);
        count_high = omega (arith, laid.count.at m l);
        starts = starts m l;
      }

  ended : Ended s
  ended = go (nodes n) refl
    where
      go : (k : ℕ) → nodes n ≡ k → due s k ≡ listed n
      go zero e = omega (arith, none_of n few e)
      go (suc m) e =
          let l : m < nodes n = omega arith in
          ap₂ ◌+◌ (laid.start.at m l) (laid.count.at m l) ∙ last_end few m (sym e)

  runs : Runs s
  runs = record { shaped = shaped; ended = ended }

  -- what a list index names, by the node in whose run it stands
  entry : (i : ℕ) → i < listed n → (r : ℕ) × Entry t i (level_at n (owner s i) - 1) r (named s i)
  entry i l = let w = owner_stands runs i l in entry_at laid (owner s i) w.node i w.low w.high

  -- 23: it may be named
  may : {i l k r : ℕ} {x : Thing} → l ≡ suc k → Entry t i k r x → MayName n s l x
  may e (of_place {r} b _) = order_below t.x t.y few r b
  may {i} e (of_node o) = let b = is_node few o in (omega arith, (b, ap suc (laid.level.at (suc i) b ∙ level_is few o) ∙ sym e))

  -- 24: nothing is named twice
  apart : {i j k l r q : ℕ} {x y : Thing} → j < i → Entry t j l q y → Entry t i k r x → y ≡ x → ⊥
  apart h (of_place {r} b e) (of_place {r = q} c f) z = order_apart t.x t.y few r q (omega arith) c (cc)
  apart h (of_place _ _) (of_node _) z = let e : ◌≡◌ {A = ℕ} 0 1 = cc in omega arith
  apart h (of_node _) (of_place _ _) z = let e : ◌≡◌ {A = ℕ} 0 1 = cc in omega arith
  apart {i} {j} h (of_node _) (of_node _) z = let e : suc j ≡ suc i = cc in omega arith

  -- 25 and 26: what a node says is what its run comes to
  joins : {A : Type 0} (op : A → A → A) (g : ℕ → A) (f : Thing → A) → ((p : ℕ) → f (place p) ≡ g p) → ((q : ℕ) → q < nodes n → f (node q) ≡ value_at op t g q) →
      (m : ℕ) → m < nodes n → f (node m) ≡ joined_run op f s m
  joins op g f h k m l = k m l ∙ sym (run_value laid m l op g f h (λ q _ b. k q b)) ∙ run_says_lem runs m l op f

  boxes : (q : ℕ) → q < nodes n → tree.box_at left.sides q ≡ box_at t q
  boxes q l = ap₂ box (ap₂ span ((says_tab _ refl refl).at q l) ((says_tab _ refl refl).at q l)) (ap₂ span ((says_tab _ refl refl).at q l) ((says_tab _ refl refl).at q l))

  meets : Meets t left
  meets = record {
    counted = record {
      empty = (none_of n few, over_zero n 0 _);
      few = omega (arith, nodes_few n few);
      all = refl;
      room = record {
        level = laid.level.room;
        start = laid.start.room;
        count = laid.count.room;
        entries = laid.long;
        x_lo = tab_long _ _ _;
        x_hi = tab_long _ _ _;
        y_lo = tab_long _ _ _;
        y_hi = tab_long _ _ _;
        kits = tab_long _ _ _;
      };
    };
    runs = runs;
    names = λ i l. may (level_of_lem (owner s i) (owner_stands runs i l).node) (entry i l).1;
    new = λ i l j b. apart b (entry j (omega arith)).1 (entry i l).1;
    boxed = joins join_boxes (table.box_of t) (box_of t left.sides) (λ _. refl) boxes;
    kitted = joins bit_or (table.kit_of t) (kit_of t left.kits) (λ _. refl) (λ q l. (says_tab _ refl refl).at q l);
  }

-- the builder's tree passes all rules, whatever the lent columns held before
pub built_passes : (t : Table) → Valid t → (before : Tree) → AllHold (tree_rules t (written_over (built t) before))
built_passes t v before = of_meets t _ (meets t (valid_even v).few before)

-- so the check of it finds no fault
pub built_verdict : (t : Table) → Valid t → (before : Tree) → verdict (check_rules t (written_over (built t) before)) ≡ says 0 0
built_verdict t v before = goes_on (table_rules t) _ v ∙ all_hold _ (built_passes t v before)

-- Members that stand for the things of a candidate.
-- Assumes nothing.
use mathlib.Core.Path.{◌≡◌, refl, sym, ap, ◌∙◌}
use mathlib.Core.List.{List, [], ◌∷◌, map, map-map}
use Prim.Native.Nat.{ℕ, zero, suc, ◌≤◌, ◌<◌}
use native.Mathlib.Nat.{not-suc-le-zero, le_of_suc-le-suc}
use native.Mathlib.Omega.{arith}
use lib.ListN.{length, get_or, take, set, length-map}
use lib.Seq.{length-take-le, get_or-take, take-set-lt}
use Rattle.table.specs.Table.{Table}
use Rattle.tree.specs.Tree.{Tree, Thing, place, level}
use Rattle.closest.specs.Group.{spread, diameter}
use Rattle.closest.specs.Candidate.{number, member, topmost, boxes_in}
use Rattle.closest.specs.Walk.{boxes}
use Rattle.closest.proofs.TopLaws.{all_places}
use Rattle.closest.proofs.DropLaws.{own_boxes}
use Rattle.groups.specs.Members.{Member, member_of, members_of, Placed, nobody, boxes_of}

-- ---- lists

module _ {A B : Type 0} (f : A → B) where
  pub get_d_map : (l : List A) (i : ℕ) (d : A) (e : B) → i < length l → get_or (map f l) i e ≡ f (get_or l i d)
  get_d_map [] i d e h = absurd (not-suc-le-zero h)
  get_d_map (a ∷ l) zero d e h = refl
  get_d_map (a ∷ l) (suc i) d e h = get_d_map l i d e (le_of_suc-le-suc h)

  pub set_map : (l : List A) (i : ℕ) (a : A) → set (map f l) i (f a) ≡ map f (set l i a)
  set_map [] i a = refl
  set_map (b ∷ l) zero a = refl
  set_map (b ∷ l) (suc i) a = ap (λ k. f b ∷ k) (set_map l i a)

-- ---- members

own : (t : Table) (w : Tree) (kinds : List ℕ) (c : List Thing) → length kinds ≡ length c → boxes_of (members_of t w c) ≡ boxes_in (boxes t w) kinds c
unfolding boxes_in
own t w [] [] e = refl
own t w [] (x ∷ c) e = absurd (omega arith)
own t w (k ∷ kinds) [] e = absurd (omega arith)
own t w (k ∷ kinds) (x ∷ c) e = ap (λ l. boxes t w k x ∷ l) (own t w kinds c (omega arith))

-- the first m members stand for the things of c
pub record StandFor (t : Table) (w : Tree) (m : ℕ) (cand : List Member) (c : List Thing) : Type 0 where
  pub long : m ≤ length cand
  pub so : take m cand ≡ members_of t w c

module _ {t : Table} {w : Tree} {m : ℕ} {cand : List Member} {c : List Thing} (f : StandFor t w m cand c) where
  pub size : length c ≡ m
  size = sym (length-map c (member_of t w)) ∙ ap length (sym f.so) ∙ length-take-le m cand f.long

  pub stands_at : (i : ℕ) → i < m → get_or cand i nobody ≡ member_of t w (member c i)
  stands_at i h =
      sym (get_or-take m cand i nobody h) ∙ ap (λ l. get_or l i nobody) f.so ∙ get_d_map (member_of t w) c i (place 0) nobody (omega (arith, size))

  pub boxes_are : (kinds : List ℕ) → length kinds ≡ length c → boxes_of (take m cand) ≡ boxes_in (boxes t w) kinds c
  boxes_are kinds e = ap boxes_of f.so ∙ own t w kinds c e

  pub numbers_are : map (λ (a : Member). a.number) (take m cand) ≡ map number c
  numbers_are = ap (map (λ (a : Member). a.number)) f.so ∙ map-map _ _ c

  pub levels_are : map (λ (a : Member). a.level) (take m cand) ≡ map (level w.shape) c
  levels_are = ap (map (λ (a : Member). a.level)) f.so ∙ map-map _ _ c

  pub replaced_so : (i : ℕ) (y : Thing) → i < m → take m (set cand i (member_of t w y)) ≡ members_of t w (set c i y)
  replaced_so i y h = take-set-lt m cand i (member_of t w y) h ∙ ap (λ l. set l i (member_of t w y)) f.so ∙ set_map (member_of t w) c i y

-- ---- a whole candidate

-- where all are places, the spread is the group's diameter
pub whole_spread : (t : Table) (w : Tree) (kinds : List ℕ) (c : List Thing) → length kinds ≡ length c →
    Placed w c → level w.shape (member c (topmost w.shape c)) ≡ 0 → spread (boxes_in (boxes t w) kinds c) ≡ diameter t (map number c)
unfolding diameter
whole_spread t w kinds c e placed top =
    ap spread (own_boxes t (boxes t w) (λ k q. refl) kinds c (sym e) (λ i h. placed i h (all_places w.shape c top i)))

-- Laws of the join of two spans, for one axis: the lesser and the greater of two are one choice, made in the two orders.
-- Assumes nothing.
use mathlib.Core.Path.{◌≡◌, refl, ap₂}
use mathlib.Core.Bool.{Bool, true, false, cond}
use native.Mathlib.Omega.{arith}
use lib.IntN.{ℤ}
use Rattle.plane.specs.Plane.{span, least, greatest, join_spans, Inside}
use Rattle.plane.specs.declared.Span.{Span}
use Rattle.plane.proofs.WholeLaws.{Le, le_read, le_make, le_antisym, lt_true, lt_false}

-- an order of coordinates, and an operation that gives the nearest bound of two
record Bound (R : ℤ → ℤ → Type 0) (op : ℤ → ℤ → ℤ) : Type 0 where
  trans : (a b c : ℤ) → R a b → R b c → R a c
  anti : (a b : ℤ) → R a b → R b a → a ≡ b
  same : (a : ℤ) → R a a
  first : (a b : ℤ) → R (op a b) a
  second : (a b : ℤ) → R (op a b) b
  near : (a b c : ℤ) → R c a → R c b → R c (op a b)

module _ {R : ℤ → ℤ → Type 0} {op : ℤ → ℤ → ℤ} (k : Bound R op) where
  op_comm : (a b : ℤ) → op a b ≡ op b a
  op_comm a b = k.anti _ _ (k.near b a _ (k.second a b) (k.first a b)) (k.near a b _ (k.second b a) (k.first b a))

  op_self : (a : ℤ) → op a a ≡ a
  op_self a = k.anti _ _ (k.first a a) (k.near a a a (k.same a) (k.same a))

  op_assoc : (a b c : ℤ) → op (op a b) c ≡ op a (op b c)
  op_assoc a b c =
      let l = k.first (op a b) c in
      let r = k.second a (op b c) in
      k.anti _ _
      (k.near a (op b c) _ (k.trans _ _ _ l (k.first a b)) (k.near b c _ (k.trans _ _ _ l (k.second a b)) (k.second (op a b) c)))
      (k.near (op a b) c _ (k.near a b _ (k.first a (op b c)) (k.trans _ _ _ r (k.first b c))) (k.trans _ _ _ r (k.second b c)))

-- what a test that goes by the order has to say
record Tested (R : ℤ → ℤ → Type 0) (t : ℤ → ℤ → Bool) : Type 0 where
  trans : (a b c : ℤ) → R a b → R b c → R a c
  anti : (a b : ℤ) → R a b → R b a → a ≡ b
  same : (a : ℤ) → R a a
  chosen : (a b : ℤ) → t a b ≡ true → R b a
  left : (a b : ℤ) → t a b ≡ false → R a b

bound : {R : ℤ → ℤ → Type 0} {t : ℤ → ℤ → Bool} → Tested R t → Bound R (λ a b. cond (t a b) b a)
bound {R} {t} k = record {
  trans = k.trans;
  anti = k.anti;
  same = k.same;
  first = λ a b. first a b (t a b) refl;
  second = λ a b. second a b (t a b) refl;
  near = λ a b c h l. near a b c h l (t a b);
}
  where
    first : (a b : ℤ) (s : Bool) → t a b ≡ s → R (cond s b a) a
    first a b true e = k.chosen a b e
    first a b false e = k.same a

    second : (a b : ℤ) (s : Bool) → t a b ≡ s → R (cond s b a) b
    second a b true e = k.same b
    second a b false e = k.left a b e

    near : (a b c : ℤ) → R c a → R c b → (s : Bool) → R c (cond s b a)
    near a b c h l true = l
    near a b c h l false = h

abbrev Ge : ℤ → ℤ → Type 0
Ge a b = Le b a

lesser : Bound Le least
unfolding least
lesser = bound record {
  trans = λ a b c h k. omega arith;
  anti = le_antisym;
  same = λ a. omega arith;
  chosen = λ a b e. omega (arith, lt_true b a e);
  left = λ a b e. lt_false b a e;
}

greater : Bound Ge greatest
unfolding greatest
greater = bound record {
  trans = λ a b c h k. omega arith;
  anti = λ a b h k. le_antisym a b k h;
  same = λ a. omega arith;
  chosen = λ a b e. omega (arith, lt_true a b e);
  left = λ a b e. lt_false a b e;
}

pub join_comm : (s t : Span) → join_spans s t ≡ join_spans t s
join_comm s t = ap₂ span (op_comm lesser _ _) (op_comm greater _ _)

pub join_self : (s : Span) → join_spans s s ≡ s
join_self s = ap₂ span (op_self lesser _) (op_self greater _)

pub join_assoc : (s t u : Span) → join_spans (join_spans s t) u ≡ join_spans s (join_spans t u)
join_assoc s t u = ap₂ span (op_assoc lesser _ _ _) (op_assoc greater _ _ _)

-- both lie in the join, and it lies in whatever both lie in
pub first_in_join : (s t : Span) → Inside s (join_spans s t)
first_in_join s t = record { lo = le_make (lesser.first s.lo t.lo); hi = le_make (greater.first s.hi t.hi) }

pub second_in_join : (s t : Span) → Inside t (join_spans s t)
second_in_join s t = record { lo = le_make (lesser.second s.lo t.lo); hi = le_make (greater.second s.hi t.hi) }

pub join_tightest : (s t u : Span) → Inside s u → Inside t u → Inside (join_spans s t) u
join_tightest s t u h k = record {
  lo = le_make (lesser.near s.lo t.lo u.lo (le_read h.lo) (le_read k.lo));
  hi = le_make (greater.near s.hi t.hi u.hi (le_read h.hi) (le_read k.hi));
}

-- lying inside, by itself
pub inside_self : (s : Span) → Inside s s
inside_self s = record { lo = le_make (omega arith); hi = le_make (omega arith) }

pub inside_trans : {s t u : Span} → Inside s t → Inside t u → Inside s u
inside_trans {s} {t} {u} h k = record { lo = le_make (omega (arith, le_read h.lo, le_read k.lo)); hi = le_make (omega (arith, le_read h.hi, le_read k.hi)) }
